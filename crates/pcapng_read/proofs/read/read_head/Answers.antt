use Rattle.std.proofs.Common.{◌≡◌, ◌≤◌, ◌<◌, ℕ, List, false, length, take, rules, arith, sym, ap, ◌∙◌}
use Rattle.std.proofs.lemmas.Bool.Decides.{nat_tests}
use Rattle.std.proofs.lemmas.Result.{err_from_is_err_and}
use Rattle.mud_base.specs.Faults.{first_row}
use Rattle.pcapng_read.specs.Blocks.{head_of, head_rows}
use Rattle.pcapng_read.proofs.Steps.{answered}
use Rattle.pcapng_read.proofs.Exits.{head_failed, head_many, head_cut, head_refused}
use Rattle.pcapng_read.proofs.read.read_head.Goals as goal

pub returns-in_err-is_enough-clause-err : goal.returns-in_err-is_enough-clause-err
returns-in_err-is_enough-clause-err g c = λ t.
    let p = err_from_is_err_and c.from_residual.result c.from_residual.ensures.1 in
    let short : length c.fetch.new.buffer.held < 12 = omega (arith, c.in_err-is_enough.ensures.short, c.wanted_behind-wanted.ensures.most) in
    rw (p.1, p.2) (head_failed c.args.standing.now _ _ _ _ (c.in_err-is_enough.ensures.octets t) short (λ beyond. omega (arith, c.in_err-is_enough.ensures.short, c.wanted_behind-wanted.ensures.beyond beyond)))

pub returns-then-standing-ge-MOST_BLOCKS-clause-err : goal.returns-then-standing-ge-MOST_BLOCKS-clause-err
returns-then-standing-ge-MOST_BLOCKS-clause-err g c = λ t.
    let some : 0 < length c.fetch.new.buffer.held = grind (arith, nat_tests) in
    head_many c.args.standing.now _ _ _ _ (c.in_ok-is_enough.ensures.octets t) some (omega arith)

pub returns-then-not-is_enough-clause-err : goal.returns-then-not-is_enough-clause-err
returns-then-not-is_enough-clause-err g c = λ t.
    let some : 0 < length c.fetch.new.buffer.held = grind (arith, nat_tests) in
    let none : c.in_ok-is_enough.is_enough ≡ false = first_of (search rules, grind (arith, nat_tests)) in
    let short : length c.fetch.new.buffer.held < 12 = grind (arith, nat_tests, c.in_ok-is_enough.ensures.enough) in
    head_cut c.args.standing.now _ _ _ _ (c.in_ok-is_enough.ensures.octets t) some (omega arith) short (c.in_ok-is_enough.ensures.end t none)

pub returns-in_err-head-clause-err : goal.returns-in_err-head-clause-err
returns-in_err-head-clause-err g c = λ t.
    let long : 12 ≤ length c.fetch.new.buffer.held = grind (arith, nat_tests, c.in_ok-is_enough.ensures.enough) in
    let p = err_from_is_err_and c.from_residual-in_err-head.result c.from_residual-in_err-head.ensures.1 in
    rw (p.1, p.2) (head_refused c.args.standing.now _ _ _ _ (c.in_ok-is_enough.ensures.octets t) c.split_at.result.0.now _ c.in_err-head.field-0.0 long (omega arith) (cc) c.in_err-head.ensures.value)

pub returns-clause-begins : goal.returns-clause-begins
returns-clause-begins g c =
    let at = c.args.standing.now in
    let k = c.fetch.new.buffer.held in
    let octets = c.split_at.result.0.now in
    let long : 12 ≤ length k = grind (arith, nat_tests, c.in_ok-is_enough.ensures.enough) in
    let front : octets ≡ take 12 k = cc in
    let said = answered (head_rows at octets) (head_of at.section.order octets) c.in_ok-head.head c.in_ok-head.ensures.value in
    record {
      enough = long;
      few = omega arith;
      says = said.1 ∙ ap (head_of at.section.order) front;
      sound = ap (λ (octets : List ℕ). first_row (head_rows at octets)) (sym front) ∙ said.0;
      least = c.in_ok-head.ensures.least;
      most = c.in_ok-head.ensures.most;
    }
