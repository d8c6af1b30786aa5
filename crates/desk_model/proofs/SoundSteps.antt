-- Every command keeps the desk sound.
use Rattle.std.proofs.Common.{ℕ, ◌≤◌, Bool, true, false, Ok, Err}
use Rattle.std.specs.Prelude.{IfOk}
use Rattle.table_model.specs.Things.{IsSoundThings}
use Rattle.table_model.specs.ThingCommands.{ThingStep, url_step, move_step, remove_step, hold_step, release_step, lease_step, end_step}
use Rattle.table_model.specs.Binds.{IsSoundBinds}
use Rattle.table_model.specs.BindCommands.{BindStep, bind_step, locals_step, observe_step, bind_class_step, unbind_class_step, set_locals_step, observe_name_step}
use Rattle.table_model.specs.Tables.{binds_of, with_binds}
use Rattle.table_model.proofs.SoundThings.{OfAfter as OfThings, sound-url_step, sound-move_step, sound-remove_step, sound-hold_step, sound-release_step, sound-lease_step, sound-end_step}
use Rattle.table_laws.proofs.SoundClasses.{sound-bind_step}
use Rattle.table_laws.proofs.SoundLocals.{sound-locals_step}
use Rattle.table_laws.proofs.SoundNames.{sound-observe_step}
use Rattle.table_laws.proofs.BindLaws.{classes_sound, locals_sound, names_sound}
use Rattle.usage_tables.specs.Files.{IsSoundFiles}
use Rattle.usage_tables.specs.FileCommands.{FileStep, import_step, verdict_step, revoke_step}
use Rattle.usage_tables.specs.Limits.{last_moment}
use Rattle.usage_tables.proofs.SoundFiles.{OfAfter as OfFiles, sound-import_step, sound-verdict_step, sound-revoke_step}
use Rattle.desk_model.specs.declared.command.Command.{Command}
use Rattle.desk_model.specs.declared.command.Command.TheVariants.{HearUrl, HearLease, Move, Remove, Hold, Release, Lease, EndLease, Import, Verdict, Revoke, Bind, Unbind, Locals, Observe}
use Rattle.desk_model.specs.DeskTables.{DeskTables, IsSound, with_things, with_files, with_desk_binds}
use Rattle.desk_model.specs.Commands.{IsCommand, stamped, by_things, by_files, by_binds, command_step}
use Rattle.desk_model.proofs.SoundClasses.{sound-unbind_any}

pub sound_stamped : (changes : Bool) (now : ℕ) (desk : DeskTables) → now ≤ last_moment → IsSound desk → IsSound (stamped changes now desk)
unfolding stamped
sound_stamped true now desk early sound = record { tables = sound.tables; files = sound.files; stamp = early }
sound_stamped false now desk early sound = sound

module _ (desk : DeskTables) (now : ℕ) (early : now ≤ last_moment) (sound : IsSound desk) where
  things_sound : (step : ThingStep) → OfThings IsSoundThings step → IfOk (by_things desk now step) (λ after. IsSound after.desk)
  unfolding by_things with_things
  things_sound (Ok after) new =
      sound_stamped after.changes now (with_things after.things desk) early (record {
        tables = record { things = new; classes = sound.tables.classes; locals = sound.tables.locals; names = sound.tables.names };
        files = sound.files;
        stamp = sound.stamp;
      })
  things_sound (Err fault) new = tt

  files_sound : (step : FileStep) → OfFiles IsSoundFiles step → IfOk (by_files desk now step) (λ after. IsSound after.desk)
  unfolding by_files with_files
  files_sound (Ok after) new = sound_stamped after.changes now (with_files after.files desk) early (record { tables = sound.tables; files = new; stamp = sound.stamp })
  files_sound (Err fault) new = tt

  binds_sound : (step : BindStep) → IfOk step (λ after. IsSoundBinds after.binds) → IfOk (by_binds desk now step) (λ after. IsSound after.desk)
  unfolding by_binds with_desk_binds with_binds
  binds_sound (Ok after) new =
      sound_stamped after.changes now (with_desk_binds after.binds desk) early (record {
        tables = record { things = sound.tables.things; classes = new.classes; locals = new.locals; names = new.names };
        files = sound.files;
        stamp = sound.stamp;
      })
  binds_sound (Err fault) new = tt

  sound_binds : IsSoundBinds (binds_of desk.tables)
  unfolding binds_of
  sound_binds = record { classes = sound.tables.classes; locals = sound.tables.locals; names = sound.tables.names }

  sound-command_step : (command : Command) → IsCommand command → IfOk (command_step desk now command) (λ after. IsSound after.desk)
  unfolding command_step bind_class_step set_locals_step observe_name_step binds_of
  sound-command_step (HearUrl mac url) is = things_sound (url_step mac url desk.tables.things) (sound-url_step desk.tables.things sound.tables.things mac url is.typed.0 is.typed.1)
  sound-command_step (HearLease mac a seconds) is = things_sound (lease_step mac a seconds now true desk.tables.things) (sound-lease_step desk.tables.things sound.tables.things mac a seconds now true is.typed.1 early is.typed.2)
  sound-command_step (Move mac url) is = things_sound (move_step mac url desk.tables.things) (sound-move_step desk.tables.things sound.tables.things mac url)
  sound-command_step (Remove mac) is = things_sound (remove_step mac desk.tables.things) (sound-remove_step desk.tables.things sound.tables.things mac)
  sound-command_step (Hold mac) is = things_sound (hold_step mac desk.tables.things) (sound-hold_step desk.tables.things sound.tables.things mac)
  sound-command_step (Release mac) is = things_sound (release_step mac desk.tables.things) (sound-release_step desk.tables.things sound.tables.things mac)
  sound-command_step (Lease mac a seconds) is = things_sound (lease_step mac a seconds now false desk.tables.things) (sound-lease_step desk.tables.things sound.tables.things mac a seconds now false is.typed.1 early is.typed.2)
  sound-command_step (EndLease a) is = things_sound (end_step a desk.tables.things) (sound-end_step desk.tables.things sound.tables.things a)
  sound-command_step (Import octets fetched) is = files_sound (import_step octets fetched desk.files) (sound-import_step desk.files sound.files octets fetched is.typed)
  sound-command_step (Verdict url digest v) is = files_sound (verdict_step url digest v desk.files) (sound-verdict_step desk.files sound.files url digest v)
  sound-command_step (Revoke url) is = files_sound (revoke_step url desk.files) (sound-revoke_step desk.files sound.files url)
  sound-command_step (Bind class a) is =
      binds_sound (bind_class_step class a (binds_of desk.tables))
      (classes_sound (binds_of desk.tables) sound_binds (bind_step class a desk.tables.classes) (sound-bind_step class a desk.tables.classes sound.tables.classes is.asked is.typed))
  sound-command_step (Unbind class a) is = binds_sound (unbind_class_step class a (binds_of desk.tables)) (sound-unbind_any class a (binds_of desk.tables) sound_binds)
  sound-command_step (Locals prefixes) is =
      binds_sound (set_locals_step prefixes (binds_of desk.tables))
      (locals_sound (binds_of desk.tables) sound_binds (locals_step prefixes desk.tables.locals) (sound-locals_step prefixes desk.tables.locals is.typed sound.tables.locals))
  sound-command_step (Observe name a seconds) is =
      binds_sound (observe_name_step name a seconds now (binds_of desk.tables))
      (names_sound (binds_of desk.tables) sound_binds (observe_step name a seconds now desk.tables.names)
      (sound-observe_step name a seconds now desk.tables.names sound.tables.names is.asked.0 is.typed.0 early is.typed.1))

pub commands_sound : (desk : DeskTables) → IsSound desk → (command : Command) (now : ℕ) → IsCommand command → now ≤ last_moment → IfOk (command_step desk now command) (λ after. IsSound after.desk)
commands_sound desk sound command now is early = sound-command_step desk now early sound command is
