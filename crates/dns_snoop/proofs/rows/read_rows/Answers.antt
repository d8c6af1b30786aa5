use Rattle.std.proofs.Common.{arith}
use Rattle.std.proofs.lemmas.Result.{err_from_is_err_and}
use Rattle.dns_snoop.proofs.RowWalks.{rows_done, rows_fail, rows_more, answered_err}
use Rattle.dns_snoop.proofs.rows.read_rows.Goals as goal

pub returns-in_err-answer : goal.returns-in_err-answer
returns-in_err-answer c =
    let p = err_from_is_err_and c.from_residual.result c.from_residual.ensures.1 in
    rw (p.1, p.2) (answered_err _ _ (rows_fail c.args.message.now c.args.asked c.answers.rows c.answers.alias c.answers.least c.answers.left c.answers.offset _ _ (omega (arith, c.answers-test.true)) c.in_err-answer.ensures.read c.answers.invariant.same))

pub answers-preserved : goal.answers-preserved
answers-preserved c = record {
  same = rw (c.in_ok-add_row.ensures, c.bound_with-bound.ensures, c.alias_after-alias.ensures, c.least_after-least.ensures)
      (rows_more c.args.message.now c.args.asked c.answers.rows c.answers.alias c.answers.least c.answers.left c.answers.offset c.in_ok-answer.answer _ (omega (arith, c.answers-test.true)) c.in_ok-answer.ensures.read c.answers.invariant.same);
  offset = c.in_ok-answer.ensures.within;
}

pub returns : goal.returns
returns c = rows_done c.args.message.now c.args.asked c.answers.rows c.answers.alias c.answers.least c.answers.left c.answers.offset _ (omega arith) c.answers.invariant.same
