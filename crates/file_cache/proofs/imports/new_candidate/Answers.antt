use Rattle.std.proofs.Common.{◌≡◌, true, false, sym, ◌∙◌}
use Rattle.file_cache.proofs.StepLaws.{candidate_offered, refused_older}
use Rattle.file_cache.proofs.imports.new_candidate.Goals as goal

pub returns-then-is_outdated_by : goal.returns-then-is_outdated_by
returns-then-is_outdated_by c files ascend found _ = refused_older _ c.args.file files c.args.row.now (sym c.if-is_outdated_by.ensures)

pub returns : goal.returns
returns c files ascend found =
    candidate_offered files ascend c.args.row.now found _ c.args.file c.in-Ok-item_of.item c.in_ok-change.change c.requires.own (sym c.if-is_outdated_by.ensures)
    (rw (c.approved_of.ensures, c.of.ensures, c.new-held.ensures, c.in-Ok.ensures) at c.in-Ok-item_of.ensures) (rw (c.new-held.ensures, c.in-Ok.ensures) at c.in_ok-change.ensures)
