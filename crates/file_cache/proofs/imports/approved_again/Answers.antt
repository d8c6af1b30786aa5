use Rattle.std.proofs.Common.{◌≤◌, ◌<◌, arith}
use Rattle.file_cache.proofs.StepLaws.{approved_raised, approved_left}
use Rattle.file_cache.proofs.imports.approved_again.Goals as goal

pub returns-in_ok-change : goal.returns-in_ok-change
returns-in_ok-change c files ascend found =
    let later : c.args.approved.now.fetched < c.args.fetched = omega arith in
    approved_raised files ascend c.args.row.now found (c.args.approved.now, c.args.approval) c.args.fetched c.in_ok-item.item c.in_ok-change.change c.requires later (rw (c.candidate_of.ensures, c.fetched_at-again.ensures) at c.in_ok-item.ensures) c.in_ok-change.ensures

pub returns-else-seconds : goal.returns-else-seconds
returns-else-seconds c files ascend found =
    let earlier : c.args.fetched ≤ c.args.approved.now.fetched = omega arith in
    approved_left files ascend c.args.row.now found (c.args.approved.now, c.args.approval) c.args.fetched c.none.result earlier c.none.ensures
