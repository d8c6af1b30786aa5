use Rattle.keep_sqlite.proofs.batch.put_one.Goals as goal

pub returns-in-Set-clause-same_reference : goal.returns-in-Set-clause-same_reference
returns-in-Set-clause-same_reference g c = c.set.ensures.same_reference

pub returns-in-Set-clause-crash : goal.returns-in-Set-clause-crash
returns-in-Set-clause-crash g c = c.set.ensures.crash

pub returns-in-Set-clause-kept : goal.returns-in-Set-clause-kept
returns-in-Set-clause-kept g c = c.set.ensures.kept

pub returns-in-Gone-clause-same_reference : goal.returns-in-Gone-clause-same_reference
returns-in-Gone-clause-same_reference g c = c.take_out.ensures.same_reference

pub returns-in-Gone-clause-crash : goal.returns-in-Gone-clause-crash
returns-in-Gone-clause-crash g c = c.take_out.ensures.crash

pub returns-in-Gone-clause-kept : goal.returns-in-Gone-clause-kept
returns-in-Gone-clause-kept g c = c.take_out.ensures.kept
