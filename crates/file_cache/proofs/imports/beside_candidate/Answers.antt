use Rattle.std.proofs.Common.{sym}
use Rattle.file_cache.proofs.StepLaws.{goes_on, octets_candidate, octets_other, no_candidate}
use Rattle.file_cache.proofs.imports.beside_candidate.Goals as goal

pub returns-then-eq : goal.returns-then-eq
returns-then-eq c files ascend found =
    let same = rw c.octets.ensures.value at c.if-eq.ensures in
    goes_on _ _ files c.candidate_again.result (octets_candidate _ c.args.file files c.args.row.now c.in-Some.candidate c.in-Some.is (sym same) c.requires.own) (c.candidate_again.ensures files ascend found)

pub returns-else-eq : goal.returns-else-eq
returns-else-eq c files ascend found =
    let other = rw c.octets.ensures.value at c.if-eq.ensures in
    goes_on _ _ files c.beside_approved.result (octets_other _ c.args.file files c.args.row.now c.in-Some.candidate c.in-Some.is (sym other)) (c.beside_approved.ensures files ascend found)

pub returns-in-None : goal.returns-in-None
returns-in-None c files ascend found = goes_on _ _ files c.beside_approved-in-None.result (no_candidate _ c.args.file files c.args.row.now c.in-None.is) (c.beside_approved-in-None.ensures files ascend found)
