-- An address is taken out of a class only where the class is kept, and then it is one that may be kept.
use Rattle.std.proofs.Common.{◌≡◌, true, ◌&&◌, List, length, Option, Some, None, subst}
use Rattle.std.specs.Prelude.{nat_lt, nat_le}
use Rattle.base_rows.proofs.RowLaws.{sort_key_row_at}
use Rattle.base_rows.proofs.ListTests.{left_of}
use Rattle.mud_base.specs.declared.addr.Addr.{Addr}
use Rattle.table_model.specs.declared.bind.Class.{Class}
use Rattle.table_model.specs.declared.bind.Class.TheVariants.{Uri, Mine}
use Rattle.table_model.specs.declared.bind.ClassRow.{ClassRow}
use Rattle.table_model.specs.Limits.{most}
use Rattle.table_model.specs.Binds.{key_of_class, class_key, class_at, is_class, is_sound_class, IsKeptClass, IsSoundClasses}
use Rattle.table_model.specs.BindCommands.{unbind_step}
use Rattle.table_model.proofs.RowSets.{all_at, first_of_three}
use Rattle.table_laws.proofs.SoundClasses.{OfClasses, sound-unbind_step}
use Rattle.table_model.proofs.Parts.{are_addrs}

-- classes with one key are one class
one_class : (c d : Class) → key_of_class c ≡ key_of_class d → c ≡ d
unfolding key_of_class
one_class (Uri a) (Uri b) e = cc
one_class (Uri a) (Mine b) e = cc
one_class (Mine a) (Uri b) e = cc
one_class (Mine a) (Mine b) e = cc

kept_class : (row : ClassRow) → IsKeptClass row → is_class row.class ≡ true
unfolding is_sound_class
kept_class row kept =
    first_of_three (is_class row.class) (are_addrs row.addrs) (nat_lt 0 (length row.addrs))
    (left_of (is_class row.class && are_addrs row.addrs && nat_lt 0 (length row.addrs)) (nat_le (length row.addrs) most.class_addresses) kept.sound)

pub class_there : (c : Class) (classes : List ClassRow) (row : ClassRow) → IsSoundClasses classes → class_at c classes ≡ Some row → is_class c ≡ true
unfolding class_at class_key
class_there c classes row sound there =
    subst (λ d. is_class d ≡ true) (one_class row.class c (sort_key_row_at class_key (key_of_class c) classes row there))
    (kept_class row (all_at class_key IsKeptClass classes (key_of_class c) row sound.each there))

pub unbind_sound : (c : Class) (a : Addr) (classes : List ClassRow) → IsSoundClasses classes → (found : Option ClassRow) → class_at c classes ≡ found → OfClasses IsSoundClasses (unbind_step c a classes)
unfolding unbind_step
unbind_sound c a classes sound None missing = rw missing tt
unbind_sound c a classes sound (Some row) there = sound-unbind_step c a classes sound (class_there c classes row sound there)
