use Rattle.std.proofs.Common.{arith, rules, sym, ap, ◌∙◌, ◌≡◌, ◌≤◌, length, drop, true}
use Rattle.std.proofs.lemmas.Result.{err_from_is_err_and}
use Rattle.dns_snoop.specs.Messages.{is_answer}
use Rattle.dns_snoop.proofs.ObservedLaws.{rows_observed}
use Rattle.dns_snoop.proofs.RowLaws.{answers_ok, answers_err, answered_then}
use Rattle.dns_snoop.proofs.answers.read_answers.Goals as goal

pub returns-in_err-rows-clause-read : goal.returns-in_err-rows-clause-read
returns-in_err-rows-clause-read c =
    let p = err_from_is_err_and c.from_residual-in_err-rows.result c.from_residual-in_err-rows.ensures.1 in
    let long : 12 ≤ length c.args.payload.now = omega (arith, c.if-payload-lt-HEADER_LEN.false) in
    let answer : is_answer c.args.payload.now ≡ true = search rules in
    let named = c.behind_first-name.ensures ∙ ap (drop 1) c.dots_of-dots.ensures in
    rw (p.1, p.2) (answered_then _ _ _ c.in_err-rows.ensures
    (answers_err c.args.payload.now c.in_ok-question.question c.asked_by-asked.result c.big_16-count.result c.behind_first-name.result.now long answer c.in_ok-question.ensures.read named c.asked_by-asked.ensures.value c.big_16-count.ensures _))

pub returns-clause-read : goal.returns-clause-read
returns-clause-read c =
    let long : 12 ≤ length c.args.payload.now = omega (arith, c.if-payload-lt-HEADER_LEN.false) in
    let answer : is_answer c.args.payload.now ≡ true = search rules in
    let named = c.in_ok-name.ensures ∙ c.behind_first-name.ensures ∙ ap (drop 1) c.dots_of-dots.ensures in
    let asks = c.asked_by-asked.ensures.value in
    answers_ok c.args.payload.now c.in_ok-question.question c.asked_by-asked.result c.big_16-count.result c.in_ok-name.name long answer c.in_ok-question.ensures.read named (rw c.in_ok-name.ensures asks) c.big_16-count.ensures c.in_ok-rows.rows c.in_ok-rows.ensures

pub returns-clause-asked : goal.returns-clause-asked
returns-clause-asked c = rows_observed c.args.payload.now (record { name = c.in_ok-name.name; rows = c.in_ok-rows.rows }) (sym (returns-clause-read c))
