use Rattle.std.proofs.Common.{◌≡◌, ◌<◌, ◌≤◌, ◌++◌, ap₂, ◌∙◌, subst, List, ℕ, length, decimal, arith, rules, lit<}
use Rattle.std.specs.Prelude.{OnOk}
use Rattle.std.proofs.lemmas.Fmt.{length-decimal-le}
use Rattle.text_values.specs.Numbers.{two_text}
use Rattle.text_values.proofs.Twos.{two_written}
use Rattle.text_values.proofs.numbers.append_two.Goals as goal

-- a number of 32 bits has ten digits at most
few_digits : (n k : ℕ) → n ≡ k → k < 4294967296 → length (decimal n) ≤ 10
few_digits n k e fits = length-decimal-le 10 n (lit< tt) (omega arith) (omega arith)

pub write_digits-behind-requires : goal.write_digits-behind-requires
write_digits-behind-requires c =
    let few : length (decimal c.from.result) ≤ 10 = few_digits c.from.result c.args.second c.from.ensures c.ranges.second.fits in
    (omega arith, search rules)

pub overflow_sub-behind : goal.overflow_sub-behind
overflow_sub-behind c =
    let few : length (decimal c.from.result) ≤ 10 = few_digits c.from.result c.args.second c.from.ensures c.ranges.second.fits in
    omega (arith, c.write_digits-behind.ensures.start)

pub write_digits-start-requires : goal.write_digits-start-requires
write_digits-start-requires c =
    let few : length (decimal c.from.result) ≤ 10 = few_digits c.from.result c.args.second c.from.ensures c.ranges.second.fits in
    let short : length (decimal c.from-2.result) ≤ 10 = few_digits c.from-2.result c.args.first c.from-2.ensures c.ranges.first.fits in
    (omega (arith, c.write_digits-behind.ensures.start), omega (arith, c.write_digits-behind.ensures.start, c.write_digits-behind.auto.buf))

pub returns-clause-ok : goal.returns-clause-ok
unfolding two_text
returns-clause-ok c =
    let few : length (decimal c.from.result) ≤ 10 = few_digits c.from.result c.args.second c.from.ensures c.ranges.second.fits in
    let long : length c.write_digits-behind.new.buf ≡ 22 = omega (arith, c.write_digits-behind.auto.buf) in
    let wide : length c.write_digits-start.new.buf ≡ 22 = omega (arith, c.write_digits-behind.auto.buf, c.write_digits-start.auto.buf) in
    subst (λ (text : List ℕ). OnOk c.append.result (c.append.new.self ≡ c.args.line.now ++ text))
    (two_written c.write_digits-behind.new.buf c.write_digits-start.new.buf (decimal c.from-2.result) (decimal c.from.result) c.write_digits-behind.result c.write_digits-start.result
    c.write_digits-behind.ensures.start (omega (arith, c.write_digits-behind.ensures.start)) long
    c.write_digits-behind.ensures.written c.write_digits-behind.ensures.before c.write_digits-start.ensures.start c.write_digits-start.ensures.written wide
    ∙ ap₂ two_text c.from-2.ensures c.from.ensures)
    c.append.ensures.ok
