use Rattle.std.proofs.Common.{subst}
use Rattle.desk_model.proofs.Keeping.{keeps_read}
use Rattle.mud_desk.specs.Items.Loaded.{loaded_desk, IsReadingOf}
use Rattle.mud_desk.proofs.ItemsLaws.Reading.{bad_item}
use Rattle.mud_desk.proofs.items.opening.read_items.Goals as goal

pub returns-in-Ok-clause-keeps : goal.returns-in-Ok-clause-keeps
returns-in-Ok-clause-keeps c = keeps_read c.args.items.now (loaded_desk c.in-Ok.loaded) c.bodies_fit.ensures (subst (IsReadingOf c.args.items.now) c.in-Ok.is c.in_ok-loaded.ensures)

pub returns-in-Ok-clause-sound : goal.returns-in-Ok-clause-sound
returns-in-Ok-clause-sound c = (keeps_read c.args.items.now (loaded_desk c.in-Ok.loaded) c.bodies_fit.ensures (subst (IsReadingOf c.args.items.now) c.in-Ok.is c.in_ok-loaded.ensures)).sound

pub returns-in_ok-copy-in-Err-clause-bad : goal.returns-in_ok-copy-in-Err-clause-bad
returns-in_ok-copy-in-Err-clause-bad c =
    bad_item c.args.items.now c.in-Err.index c.index-items-index.result c.in_ok-copy-in-Err.field-0 c.bodies_fit.ensures (subst (IsReadingOf c.args.items.now) c.in-Err.is c.in_ok-loaded.ensures) c.index-items-index.is c.in_ok-copy-in-Err.ensures
