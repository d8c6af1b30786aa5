use Rattle.std.proofs.Common.{sym}
use Rattle.file_cache.proofs.StepLaws.{goes_on, octets_approved, octets_new, none_approved}
use Rattle.file_cache.proofs.imports.beside_approved.Goals as goal

pub returns-then-eq : goal.returns-then-eq
returns-then-eq c files ascend found =
    let same = rw c.octets.ensures.value at c.if-eq.ensures in
    goes_on _ _ files c.approved_again.result (octets_approved _ c.args.file files c.args.row.now (c.in-Some.approved, c.in-Some.approval) c.in-Some.is (sym same) c.requires.own) (c.approved_again.ensures files ascend found)

pub returns-else-eq : goal.returns-else-eq
returns-else-eq c files ascend found =
    let other = rw c.octets.ensures.value at c.if-eq.ensures in
    goes_on _ _ files c.new_candidate.result (octets_new _ c.args.file files c.args.row.now (c.in-Some.approved, c.in-Some.approval) c.in-Some.is (sym other)) (c.new_candidate.ensures files ascend found)

pub returns-in-None : goal.returns-in-None
returns-in-None c files ascend found = goes_on _ _ files c.new_candidate-in-None.result (none_approved _ c.args.file files c.args.row.now c.in-None.is) (c.new_candidate-in-None.ensures files ascend found)
