use Rattle.std.proofs.Common.{◌≡◌, Ok, ap, subst, sym, ◌∙◌}
use Rattle.sqlite.specs.Files.{over_files}
use Rattle.keep_sqlite.specs.FileKeepers.{opened_items, OpenedMayLeave, OpenedTells}
use Rattle.keep_sqlite.specs.Reopened.{IsFoundNext}
use Rattle.keep_sqlite.specs.Telling.{MayBeLeft}
use Rattle.keep_sqlite.proofs.LeftItems.{found_as}
use Rattle.keep_sqlite.proofs.file_keeper.leave_file.Goals as goal

pub returns-in-Ok-clause-found : goal.returns-in-Ok-clause-found
returns-in-Ok-clause-found g c clean =
    subst (λ k. IsFoundNext c.leave.result (OpenedMayLeave over_files k)) (ap Ok c.opened.view_is ∙ sym c.in-Ok.is ∙ c.into_keeper.ensures) (c.leave.ensures.next clean)

pub returns-in-Ok-clause-told : goal.returns-in-Ok-clause-told
returns-in-Ok-clause-told g c clean =
    subst (λ k. OpenedTells over_files k → IsFoundNext c.leave.result (λ list. list ≡ opened_items over_files k)) (ap Ok c.opened.view_is ∙ sym c.in-Ok.is ∙ c.into_keeper.ensures)
    (λ tells. found_as c.leave.result (MayBeLeft over_files c.opened.inside.keeper) _ (c.opened.invariant.told tells) (c.leave.ensures.next clean))

pub returns-in-Ok-clause-held : goal.returns-in-Ok-clause-held
returns-in-Ok-clause-held g c clean held = c.leave.ensures.held clean (c.opened.invariant.store held)
