use Rattle.std.proofs.Common.{refl, subst, sym}
use Rattle.run_common.specs.Status.{status_number}
use Rattle.run_changes.specs.Import.Scenes.{standing, scene}
use Rattle.run_changes.proofs.ImportLaws.Folders.{part_of_none, part_of_one, all_of_one, IsOfAll}
use Rattle.run_changes.proofs.import.file.import_file.Goals as goal
use Rattle.base_rows.proofs.Results.{always_on_err}

pub returns-in_err-reply-clause-part : goal.returns-in_err-reply-clause-part
unfolding scene standing
returns-in_err-reply-clause-part g c = λ d p k. always_on_err c.from_residual.result
    (part_of_none _ _ _ _ c.in_err-reply.ensures.still (c.in_err-reply.ensures.clock k) refl c.in_err-reply.ensures.steady)

pub returns-in_err-say_line-clause-part : goal.returns-in_err-say_line-clause-part
unfolding scene
returns-in_err-say_line-clause-part g c = λ d p k. always_on_err c.from_residual-in_err-say_line.result
    (part_of_one _ _ c.in_ok-reply.reply _ _ (c.in_ok-reply.ensures.leads p k) c.in_ok-reply.ensures.keeper (c.in_err-say_line.ensures.part d))

pub returns-clause-all : goal.returns-clause-all
unfolding scene
returns-clause-all g c = λ d p k.
    all_of_one _ _ c.in_ok-reply.reply _ _ (c.in_ok-reply.ensures.leads p k) c.in_ok-reply.ensures.keeper (status_number c.status_with.result) c.status_with.ensures (c.in_ok-say_line.ensures.ok d)

pub returns-clause-statuses : goal.returns-clause-statuses
returns-clause-statuses g c = subst IsOfAll (sym c.status_with.ensures) c.in_ok-reply.ensures.statuses
