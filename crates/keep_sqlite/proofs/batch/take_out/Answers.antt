use Rattle.keep_sqlite.proofs.Steps.{was_inside, gone_reaches}
use Rattle.keep_sqlite.proofs.batch.take_out.Goals as goal

pub returns-clause-ok : goal.returns-clause-ok
returns-clause-ok g c clean holds =
    gone_reaches c.args.kind c.args.key.now _ _ c.in_ok-_changed._changed
    (rw (c.params-to_sql.ensures, c.params-to_sql-2.ensures, c.from.ensures, c.octets.ensures) at (c.in_ok-_changed.ensures.runs clean (was_inside _ _ _ c.in_ok-_changed.ensures.ended)))
    holds

pub returns-clause-same_reference : goal.returns-clause-same_reference
returns-clause-same_reference g c = c.execute.ensures.same_reference

pub returns-clause-crash : goal.returns-clause-crash
returns-clause-crash g c = c.execute.ensures.survives

pub returns-in_err-_changed-clause-same_reference : goal.returns-in_err-_changed-clause-same_reference
returns-in_err-_changed-clause-same_reference g c = c.execute.ensures.same_reference

pub returns-in_err-_changed-clause-crash : goal.returns-in_err-_changed-clause-crash
returns-in_err-_changed-clause-crash g c = c.execute.ensures.survives
