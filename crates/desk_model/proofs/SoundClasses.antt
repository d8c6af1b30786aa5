-- An address is taken out of a class only where the class is kept, and then it is one that may be kept.
use Rattle.std.proofs.Common.{◌≡◌, false, List, Option, Some, None, Err, refl, sym, ◌∙◌}
use Rattle.std.proofs.lemmas.Bool.{false≢true}
use Rattle.std.specs.Prelude.{IfOk}
use Rattle.mud_base.specs.declared.addr.Addr.{Addr}
use Rattle.table_model.specs.declared.bind.Class.{Class}
use Rattle.table_model.specs.declared.bind.ClassRow.{ClassRow}
use Rattle.table_model.specs.declared.bind_fault.BindFault.TheVariants.{NotBound}
use Rattle.table_model.specs.Binds.{Binds, class_at, is_class, IsSoundClasses, IsSoundBinds}
use Rattle.table_model.specs.BindCommands.{unbind_step, unbind_class_step, with_classes}
use Rattle.table_laws.proofs.BindLaws.{classes_sound}
use Rattle.table_laws.proofs.KeptClasses.{unbind_sound, class_there}

pub sound-unbind_any : (c : Class) (a : Addr) (binds : Binds) → IsSoundBinds binds → IfOk (unbind_class_step c a binds) (λ after. IsSoundBinds after.binds)
unfolding unbind_class_step
sound-unbind_any c a binds sound = classes_sound binds sound (unbind_step c a binds.classes) (unbind_sound c a binds.classes sound.classes (class_at c binds.classes) refl)

none_bound : (c : Class) (a : Addr) (classes : List ClassRow) → IsSoundClasses classes → is_class c ≡ false → (found : Option ClassRow) → class_at c classes ≡ found → unbind_step c a classes ≡ Err NotBound
unfolding unbind_step
none_bound c a classes sound wrong None missing = rw missing refl
none_bound c a classes sound wrong (Some row) there = absurd (false≢true (sym wrong ∙ class_there c classes row sound there))

pub unbind_no_class : (binds : Binds) → IsSoundBinds binds → (c : Class) (a : Addr) → is_class c ≡ false → unbind_class_step c a binds ≡ Err NotBound
unfolding unbind_class_step with_classes
unbind_no_class binds sound c a wrong = rw (none_bound c a binds.classes sound.classes wrong (class_at c binds.classes) refl) refl
