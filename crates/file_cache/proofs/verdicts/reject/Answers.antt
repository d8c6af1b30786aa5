use Rattle.file_cache.proofs.VerdictLaws.{rejected_left, rejected_gone}
use Rattle.file_cache.proofs.verdicts.reject.Goals as goal

pub returns-in_ok-change-in-Some : goal.returns-in_ok-change-in-Some
returns-in_ok-change-in-Some c files found =
    rejected_left files c.args.row.now found c.args.candidate.now _ c.in_ok-item-in-Some.item c.in_ok-change-in-Some.change c.in-Some.is (rw c.approved_of.ensures at c.in_ok-item-in-Some.ensures) c.in_ok-change-in-Some.ensures

pub returns-in_ok-change-in-None : goal.returns-in_ok-change-in-None
returns-in_ok-change-in-None c files found = rejected_gone files c.args.row.now found c.args.candidate.now c.in_ok-change-in-None.change c.in-None.is c.in_ok-change-in-None.ensures
