-- Every command says truly whether a list changes, and sets the stamp exactly where one does.
use Rattle.std.proofs.Common.{◌≡◌, ℕ, ◌+◌, Bool, true, false, Ok, Err, refl, sym, ap, ◌∙◌}
use Rattle.std.specs.Prelude.{IfOk, ◌↔◌}
use Rattle.std.proofs.lemmas.Bool.{false≢true}
use Rattle.table_model.specs.ThingCommands.{ThingStep, TellsChange as TellsThings, url_step, move_step, remove_step, hold_step, release_step, lease_step, end_step}
use Rattle.table_model.specs.BindCommands.{BindStep, bind_step, unbind_step, locals_step, observe_step, bind_class_step, unbind_class_step, set_locals_step, observe_name_step}
use Rattle.table_model.specs.Tables.{Tables, binds_of, with_binds}
use Rattle.table_model.proofs.ToldThings.{told-url_step, told-move_step, told-remove_step, told-hold_step, told-release_step, told-lease_step, told-end_step}
use Rattle.table_laws.proofs.BindChanges.{bind_tells, unbind_tells, locals_tell, observe_tells, sooner}
use Rattle.table_laws.proofs.BindLaws.{classes_told, locals_told, names_told}
use Rattle.usage_tables.specs.FileCommands.{FileStep, TellsChange as TellsFiles, import_step, verdict_step, revoke_step}
use Rattle.usage_tables.proofs.ToldFiles.{told-import_step, told-verdict_step, told-revoke_step}
use Rattle.desk_model.specs.declared.command.Command.{Command}
use Rattle.desk_model.specs.declared.command.Command.TheVariants.{HearUrl, HearLease, Move, Remove, Hold, Release, Lease, EndLease, Import, Verdict, Revoke, Bind, Unbind, Locals, Observe}
use Rattle.desk_model.specs.declared.reply.Outcome.{Outcome}
use Rattle.desk_model.specs.DeskTables.{DeskTables, IsSound, HaveSameLists, with_things, with_files, with_desk_binds}
use Rattle.desk_model.specs.Commands.{IsCommand, TellsChange, stamped, by_things, by_files, by_binds, command_step}

-- by what holds of the lists before they are stamped
told_by : (outcome : Outcome) (changes : Bool) (now : ℕ) (before after : DeskTables) → (changes ≡ false → after ≡ before) → (changes ≡ true → HaveSameLists before after → ⊥) → TellsChange before now (record { outcome = outcome; changes = changes; desk = stamped changes now after })
unfolding stamped
told_by outcome true now before after same other = record {
  same = λ e. absurd (false≢true (sym e));
  other = λ e lists. other refl (record { tables = lists.tables; files = lists.files });
  stamp = λ e. refl;
}
told_by outcome false now before after same other = record {
  same = λ e. same refl;
  other = λ e. absurd (false≢true e);
  stamp = λ e. absurd (false≢true e);
}

not_both : (b : Bool) → b ≡ true → b ≡ false → ⊥
not_both b e f = false≢true (sym f ∙ e)

module _ (desk : DeskTables) (now : ℕ) where
  things_tell : (step : ThingStep) → IfOk step (TellsThings desk.tables.things) → IfOk (by_things desk now step) (TellsChange desk now)
  unfolding by_things with_things
  things_tell (Ok after) tells =
      told_by (record { word = after.word; until = after.until; url = _ }) after.changes now desk (with_things after.things desk)
      (λ e. ap (λ things. with_things things desk) (tells.same e))
      (λ e lists. tells.other e (ap (λ (t : Tables). t.things) lists.tables))
  things_tell (Err fault) tells = tt

  files_tell : (step : FileStep) → IfOk step (TellsFiles desk.files) → IfOk (by_files desk now step) (TellsChange desk now)
  unfolding by_files with_files
  files_tell (Ok after) tells =
      told_by (record { word = after.word; until = _; url = _ }) after.changes now desk (with_files after.files desk)
      (λ e. ap (λ files. with_files files desk) (tells.same e))
      (λ e lists. tells.other e lists.files)
  files_tell (Err fault) tells = tt

  binds_tell : (step : BindStep) → IfOk step (λ after. (after.changes ≡ false) ↔ (after.binds ≡ binds_of desk.tables)) → IfOk (by_binds desk now step) (TellsChange desk now)
  unfolding by_binds with_desk_binds with_binds binds_of
  binds_tell (Ok after) tells =
      told_by (record { word = after.word; until = after.until; url = _ }) after.changes now desk (with_desk_binds after.binds desk)
      (λ e. ap (λ binds. with_desk_binds binds desk) (tells.0 e))
      (λ e lists. not_both after.changes e (tells.1 (ap (λ (t : Tables). binds_of t) lists.tables)))
  binds_tell (Err fault) tells = tt

  told-command_step : IsSound desk → (command : Command) → IsCommand command → IfOk (command_step desk now command) (TellsChange desk now)
  unfolding command_step bind_class_step unbind_class_step set_locals_step observe_name_step binds_of
  told-command_step sound (HearUrl mac url) is = things_tell (url_step mac url desk.tables.things) (told-url_step desk.tables.things sound.tables.things.ascend mac url)
  told-command_step sound (HearLease mac a seconds) is = things_tell (lease_step mac a seconds now true desk.tables.things) (told-lease_step desk.tables.things sound.tables.things.ascend mac a seconds now true)
  told-command_step sound (Move mac url) is = things_tell (move_step mac url desk.tables.things) (told-move_step desk.tables.things sound.tables.things.ascend mac url)
  told-command_step sound (Remove mac) is = things_tell (remove_step mac desk.tables.things) (told-remove_step desk.tables.things sound.tables.things.ascend mac)
  told-command_step sound (Hold mac) is = things_tell (hold_step mac desk.tables.things) (told-hold_step desk.tables.things sound.tables.things.ascend mac)
  told-command_step sound (Release mac) is = things_tell (release_step mac desk.tables.things) (told-release_step desk.tables.things sound.tables.things.ascend mac)
  told-command_step sound (Lease mac a seconds) is = things_tell (lease_step mac a seconds now false desk.tables.things) (told-lease_step desk.tables.things sound.tables.things.ascend mac a seconds now false)
  told-command_step sound (EndLease a) is = things_tell (end_step a desk.tables.things) (told-end_step desk.tables.things sound.tables.things.ascend a)
  told-command_step sound (Import octets fetched) is = files_tell (import_step octets fetched desk.files) (told-import_step desk.files sound.files.ascend octets fetched)
  told-command_step sound (Verdict url digest v) is = files_tell (verdict_step url digest v desk.files) (told-verdict_step desk.files sound.files.ascend url digest v)
  told-command_step sound (Revoke url) is = files_tell (revoke_step url desk.files) (told-revoke_step desk.files sound.files.ascend url)
  told-command_step sound (Bind class a) is =
      binds_tell (bind_class_step class a (binds_of desk.tables))
      (classes_told (binds_of desk.tables) class a (bind_step class a desk.tables.classes) (bind_tells class a desk.tables.classes))
  told-command_step sound (Unbind class a) is =
      binds_tell (unbind_class_step class a (binds_of desk.tables))
      (classes_told (binds_of desk.tables) class a (unbind_step class a desk.tables.classes) (unbind_tells class a desk.tables.classes sound.tables.classes.ascend))
  told-command_step sound (Locals prefixes) is =
      binds_tell (set_locals_step prefixes (binds_of desk.tables))
      (locals_told (binds_of desk.tables) prefixes (locals_step prefixes desk.tables.locals) (locals_tell prefixes desk.tables.locals))
  told-command_step sound (Observe name a seconds) is =
      binds_tell (observe_name_step name a seconds now (binds_of desk.tables))
      (names_told (binds_of desk.tables) name a (now + seconds) now (sooner now seconds is.asked.1) (observe_step name a seconds now desk.tables.names) (observe_tells name a seconds now desk.tables.names is.asked.1))

pub commands_told : (desk : DeskTables) → IsSound desk → (command : Command) (now : ℕ) → IsCommand command → IfOk (command_step desk now command) (TellsChange desk now)
commands_told desk sound command now is = told-command_step desk now sound command is

pub lists-stamped : (changes : Bool) (now : ℕ) (desk : DeskTables) → HaveSameLists desk (stamped changes now desk)
unfolding stamped
lists-stamped true now desk = record { tables = refl; files = refl }
lists-stamped false now desk = record { tables = refl; files = refl }
