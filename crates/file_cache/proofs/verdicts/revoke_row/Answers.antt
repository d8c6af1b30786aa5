use Rattle.file_cache.proofs.VerdictLaws.{revoked_left, revoked_gone, not_approved}
use Rattle.file_cache.proofs.verdicts.revoke_row.Goals as goal

pub returns-in-None-default : goal.returns-in-None-default
returns-in-None-default c files found _ = not_approved c.args.row.now.url files c.args.row.now c.in-None-default.is-0

pub returns-in_ok-change-in-Some-Some : goal.returns-in_ok-change-in-Some-Some
returns-in_ok-change-in-Some-Some c files found =
    revoked_left files c.args.row.now found _ _ c.in_ok-item-in-Some-Some.item c.in_ok-change-in-Some-Some.change c.in-Some-Some.is-0 c.in-Some-Some.is-1 (rw c.candidate_of.ensures at c.in_ok-item-in-Some-Some.ensures) c.in_ok-change-in-Some-Some.ensures

pub returns-in_ok-change-in-Some-None : goal.returns-in_ok-change-in-Some-None
returns-in_ok-change-in-Some-None c files found = revoked_gone files c.args.row.now found _ c.in_ok-change-in-Some-None.change c.in-Some-None.is-0 c.in-Some-None.is-1 c.in_ok-change-in-Some-None.ensures
