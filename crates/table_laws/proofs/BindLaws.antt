-- A command on one of the three lists, over all three.
use Rattle.std.proofs.Common.{◌≡◌, ℕ, ◌<◌, Bool, true, false, List, Ok, Err, refl, sym, ap, ◌∙◌}
use Rattle.std.specs.Prelude.{◌↔◌, IfOk}
use Rattle.mud_base.specs.declared.addr.Addr.{Addr}
use Rattle.mud_base.specs.declared.prefix.Prefix.{Prefix}
use Rattle.item_codec.specs.declared.word.Word.{Word}
use Rattle.table_model.specs.declared.bind.Class.{Class}
use Rattle.table_model.specs.declared.bind.ClassRow.{ClassRow}
use Rattle.table_model.specs.declared.bind.NameRow.{NameRow}
use Rattle.table_model.specs.Binds.{Binds, IsSoundClasses, IsSoundLocals, IsSoundNames, IsSoundBinds}
use Rattle.table_model.specs.BindCommands.{ClassStep, LocalStep, NameStep, is_change, with_classes}
use Rattle.table_laws.proofs.SoundClasses.{OfClasses}
use Rattle.table_laws.proofs.SoundLocals.{OfLocals}
use Rattle.table_laws.proofs.SoundNames.{OfNames}
use Rattle.table_laws.proofs.BindChanges.{Tells, TellsClasses, TellsLocals, TellsNames}
use Rattle.table_model.proofs.Parts.{with_locals, with_names}

-- ---- Sound lists

pub classes_sound : (binds : Binds) → IsSoundBinds binds → (step : ClassStep) → OfClasses IsSoundClasses step → IfOk (with_classes binds step) (λ after. IsSoundBinds after.binds)
unfolding with_classes
classes_sound binds sound (Ok after) new = record { classes = new; locals = sound.locals; names = sound.names }
classes_sound binds sound (Err fault) new = tt

pub locals_sound : (binds : Binds) → IsSoundBinds binds → (step : LocalStep) → OfLocals IsSoundLocals step → IfOk (with_locals binds step) (λ after. IsSoundBinds after.binds)
locals_sound binds sound (Ok after) new = record { classes = sound.classes; locals = new; names = sound.names }
locals_sound binds sound (Err fault) new = tt

pub names_sound : (binds : Binds) → IsSoundBinds binds → (step : NameStep) → OfNames IsSoundNames step → IfOk (with_names binds step) (λ after. IsSoundBinds after.binds)
names_sound binds sound (Ok after) new = record { classes = sound.classes; locals = sound.locals; names = new }
names_sound binds sound (Err fault) new = tt

-- ---- Whether a list changes

by_word : {A : Type 0} (word : Word) (before after : A) → Tells word before after → after ≡ before → (b : Bool) → is_change word ≡ b → is_change word ≡ false
by_word word before after tells same true is = absurd (tells.other is same)
by_word word before after tells same false is = is

-- of one list and of all three: `put` puts it in place, and `its` takes it from there
told_both : {A : Type 0} (put : A → Binds) (its : Binds → A) (binds : Binds) (word : Word) (after : A) → ((x : A) → its (put x) ≡ x) → put (its binds) ≡ binds → Tells word (its binds) after → (is_change word ≡ false) ↔ (put after ≡ binds)
told_both put its binds word after back here tells = (
  λ e. ap put (tells.stays e) ∙ here,
  λ e. by_word word (its binds) after tells (sym (back after) ∙ ap its e) (is_change word) refl,
)

pub classes_told : (binds : Binds) (c : Class) (a : Addr) (step : ClassStep) → TellsClasses c a binds.classes step → IfOk (with_classes binds step) (λ after. (after.changes ≡ false) ↔ (after.binds ≡ binds))
unfolding with_classes
classes_told binds c a (Ok after) tells = told_both (λ (x : List ClassRow). record binds { classes = x }) (λ (b : Binds). b.classes) binds after.word after.classes (λ x. refl) refl tells
classes_told binds c a (Err fault) tells = tt

pub locals_told : (binds : Binds) (prefixes : List Prefix) (step : LocalStep) → TellsLocals prefixes binds.locals step → IfOk (with_locals binds step) (λ after. (after.changes ≡ false) ↔ (after.binds ≡ binds))
locals_told binds prefixes (Ok after) tells = told_both (λ (x : List Prefix). record binds { locals = x }) (λ (b : Binds). b.locals) binds after.word after.locals (λ x. refl) refl tells
locals_told binds prefixes (Err fault) tells = tt

pub names_told : (binds : Binds) (name : List ℕ) (a : Addr) (until now : ℕ) (later : now < until) (step : NameStep) → TellsNames name a until now later binds.names step → IfOk (with_names binds step) (λ after. (after.changes ≡ false) ↔ (after.binds ≡ binds))
names_told binds name a until now later (Ok after) tells = told_both (λ (x : List NameRow). record binds { names = x }) (λ (b : Binds). b.names) binds after.word after.names (λ x. refl) refl tells
names_told binds name a until now later (Err fault) tells = tt
