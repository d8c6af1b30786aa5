-- Every step on classes keeps them sound.
use Rattle.std.proofs.Common.{◌≡◌, ℕ, ◌+◌, ◌≤◌, ◌<◌, ◌^◌, Bool, true, false, cond, not, ◌&&◌, List, [], ◌∷◌, length, Option, Some, None, Ok, Err, refl, arith}
use Rattle.std.specs.Prelude.{nat_le, nat_lt}
use Rattle.std.specs.List.{AllByRecursion}
use Rattle.std.proofs.lemmas.Bool.{leb-true, leb-false, le-leb, lt-ltb, ltb-true}
use Rattle.mud_base.specs.Addresses.{same_addr}
use Rattle.mud_base.specs.declared.addr.Addr.{Addr}
use Rattle.base_rows.specs.Sortable.{set_row, without_row}
use Rattle.base_rows.specs.Addresses.{addr_sort_key}
use Rattle.base_rows.proofs.AscendLaws.{ascend_from, ascend_to}
use Rattle.base_rows.proofs.SortableLaws.{ascend-set_row}
use Rattle.base_rows.proofs.RowLaws.{all-set_row, ascend-filter, length-set_row}
use Rattle.table_model.specs.declared.bind.Class.{Class}
use Rattle.table_model.specs.declared.bind.ClassRow.{ClassRow}
use Rattle.table_model.specs.declared.bind_fault.BindFault.TheVariants.{ClassesFull, ClassFull, NotBound}
use Rattle.item_codec.specs.declared.word.Word.TheVariants.{Same, Bound, Unbound}
use Rattle.table_model.specs.Limits.{most}
use Rattle.table_model.specs.Binds.{key_of_class, class_key, class_at, set_class, without_class, class_row, has_addr, with_addr, without_addr, is_class, is_sound_class, IsKeptClass, IsSoundClasses}
use Rattle.table_model.specs.ItemFields.{IsAddr}
use Rattle.table_model.specs.BindCommands.{ClassStep, classes_done, bind_step, unbind_step}
use Rattle.base_rows.proofs.ListTests.{left_of, right_of, both}
use Rattle.base_rows.proofs.Lists.{filter_few}
use Rattle.table_model.proofs.RowSets.{first_of_three}
use Rattle.table_model.proofs.LeaseLaws.{all_kept}
use Rattle.table_laws.proofs.SoundRows.{AreSoundRows, put_new_row, put_there_row, without_sound_row}
use Rattle.table_model.proofs.RowSets.{all_at}
use Rattle.table_model.proofs.Parts.{bind_cases, classes_without, unbind_cases, are_addrs}

-- ---- Addresses are rows by themselves

with_addr_ascends : (a : Addr) (bs : List Addr) → are_addrs bs ≡ true → are_addrs (with_addr a bs) ≡ true
unfolding with_addr
with_addr_ascends a bs e = ascend_to addr_sort_key (set_row addr_sort_key a bs) (ascend-set_row addr_sort_key a bs (ascend_from addr_sort_key bs e))

without_addr_ascends : (a : Addr) (bs : List Addr) → are_addrs bs ≡ true → are_addrs (without_addr a bs) ≡ true
unfolding without_addr
without_addr_ascends a bs e = ascend_to addr_sort_key (without_addr a bs) (ascend-filter addr_sort_key (λ b. not (same_addr b a)) bs (ascend_from addr_sort_key bs e))

with_addr_grown : (a : Addr) (bs : List Addr) → length (with_addr a bs) ≤ length bs + 1
unfolding with_addr
with_addr_grown a bs = (length-set_row addr_sort_key a bs).grown

with_addr_kept : (a : Addr) (bs : List Addr) → length bs ≤ length (with_addr a bs)
unfolding with_addr
with_addr_kept a bs = (length-set_row addr_sort_key a bs).kept

with_addr_each : (a : Addr) (bs : List Addr) → IsAddr a → AllByRecursion IsAddr bs → AllByRecursion IsAddr (with_addr a bs)
unfolding with_addr
with_addr_each a bs fine fit = all-set_row addr_sort_key IsAddr a bs fine fit

without_addr_each : (a : Addr) (bs : List Addr) → AllByRecursion IsAddr bs → AllByRecursion IsAddr (without_addr a bs)
unfolding without_addr
without_addr_each a bs fit = all_kept IsAddr (λ b. not (same_addr b a)) bs fit

-- ---- Classes

pub record AreSoundAddrs (bs : List Addr) : Type 0 where
  pub ascend : are_addrs bs ≡ true
  pub some : 0 < length bs
  pub few : length bs ≤ most.class_addresses
  pub fit : AllByRecursion IsAddr bs

class_from : (row : ClassRow) → IsKeptClass row → (is_class row.class ≡ true) × AreSoundAddrs row.addrs
unfolding is_sound_class
class_from row kept =
    let e : is_sound_class row ≡ true = kept.sound in
    let c : Bool = is_class row.class in
    let up : Bool = are_addrs row.addrs in
    let some : Bool = nat_lt 0 (length row.addrs) in
    let few : Bool = nat_le (length row.addrs) most.class_addresses in
    let three : (c && up && some) ≡ true = left_of (c && up && some) few e in (
      first_of_three c up some three,
      record {
        ascend = right_of c up (left_of (c && up) some three);
        some = ltb-true 0 (length row.addrs) (right_of (c && up) some three);
        few = leb-true (length row.addrs) most.class_addresses (right_of (c && up && some) few e);
        fit = kept.fits.each;
      },
    )

few_enough : (n : ℕ) → n ≤ most.class_addresses → n < 2 ^ 16
few_enough n few = omega (arith, few)

class_to : (c : Class) (bs : List Addr) → is_class c ≡ true → AreSoundAddrs bs → IsKeptClass (class_row c bs)
unfolding is_sound_class class_row
class_to c bs e s = record {
  sound = both (is_class c && are_addrs bs && nat_lt 0 (length bs)) (nat_le (length bs) most.class_addresses)
      (both (is_class c && are_addrs bs) (nat_lt 0 (length bs)) (both (is_class c) (are_addrs bs) e s.ascend) (lt-ltb 0 (length bs) s.some))
      (le-leb (length bs) most.class_addresses s.few);
  fits = record { few = few_enough (length bs) s.few; each = s.fit };
}

abbrev pub OfClasses : (List ClassRow → Type 0) → ClassStep → Type 0
OfClasses P (Ok after) = P after.classes
OfClasses P (Err fault) = Unit {0}

pub cond_classes : (P : List ClassRow → Type 0) (b : Bool) (x y : ClassStep) → (b ≡ true → OfClasses P x) → (b ≡ false → OfClasses P y) → OfClasses P (cond b x y)
cond_classes P true x y f g = f refl
cond_classes P false x y f g = g refl

from_rows : (rows : List ClassRow) → AreSoundRows class_key IsKeptClass most.classes rows → IsSoundClasses rows
from_rows rows s = record { ascend = s.ascend; each = s.each; few = s.few }

module _ (c : Class) (a : Addr) (classes : List ClassRow) (sound : IsSoundClasses classes) where
  rows_sound : AreSoundRows class_key IsKeptClass most.classes classes
  rows_sound = record { ascend = sound.ascend; each = sound.each; few = sound.few }

  of_row : (row : ClassRow) → class_at c classes ≡ Some row → AreSoundAddrs row.addrs
  unfolding class_at
  of_row row there = (class_from row (all_at class_key IsKeptClass classes (key_of_class c) row sound.each there)).1

  put_class : (row : ClassRow) (bs : List Addr) → is_class c ≡ true → class_at c classes ≡ Some row → AreSoundAddrs bs → IsSoundClasses (set_class (class_row c bs) classes)
  unfolding class_at set_class class_key class_row
  put_class row bs e there s = from_rows (set_row class_key (class_row c bs) classes)
      (put_there_row class_key IsKeptClass most.classes (class_row c bs) row classes rows_sound (class_to c bs e s) there)

  bind_cases_sound : is_class c ≡ true → IsAddr a → (o : Option ClassRow) → class_at c classes ≡ o → OfClasses IsSoundClasses (bind_cases c a classes o)
  unfolding set_class
  bind_cases_sound e fine None is = cond_classes IsSoundClasses (nat_le most.classes (length classes)) (Err ClassesFull) (classes_done Bound (set_class (class_row c (a ∷ [])) classes))
      (λ _. tt)
      (λ room. from_rows (set_row class_key (class_row c (a ∷ [])) classes) (put_new_row class_key IsKeptClass most.classes (class_row c (a ∷ [])) classes rows_sound
      (class_to c (a ∷ []) e (record { ascend = refl; some = omega arith; few = omega arith; fit = (fine, tt) })) (leb-false most.classes (length classes) room)))
  bind_cases_sound e fine (Some row) is =
      let old : AreSoundAddrs row.addrs = of_row row is in
      cond_classes IsSoundClasses (has_addr a row.addrs) (classes_done Same classes) (cond (nat_le most.class_addresses (length row.addrs)) (Err ClassFull) (classes_done Bound (set_class (class_row c (with_addr a row.addrs)) classes)))
      (λ _. sound)
      (λ _. cond_classes IsSoundClasses (nat_le most.class_addresses (length row.addrs)) (Err ClassFull) (classes_done Bound (set_class (class_row c (with_addr a row.addrs)) classes))
      (λ _. tt)
      (λ room. put_class row (with_addr a row.addrs) e is (record {
        ascend = with_addr_ascends a row.addrs old.ascend;
        some = more (length row.addrs) (length (with_addr a row.addrs)) old.some (with_addr_kept a row.addrs);
        few = few_more (length row.addrs) (length (with_addr a row.addrs)) (leb-false most.class_addresses (length row.addrs) room) (with_addr_grown a row.addrs);
        fit = with_addr_each a row.addrs fine old.fit;
      })))
    where
      more : (n m : ℕ) → 0 < n → n ≤ m → 0 < m
      more n m h k = omega arith

      few_more : (n m : ℕ) → n < most.class_addresses → m ≤ n + 1 → m ≤ most.class_addresses
      few_more n m h k = omega arith

  pub sound-bind_step : is_class c ≡ true → IsAddr a → OfClasses IsSoundClasses (bind_step c a classes)
  unfolding bind_step
  sound-bind_step e fine = bind_cases_sound e fine (class_at c classes) refl

  fewer_sound : (row : ClassRow) → is_class c ≡ true → class_at c classes ≡ Some row → (bs : List Addr) → are_addrs bs ≡ true → length bs ≤ length row.addrs → AllByRecursion IsAddr bs → IsSoundClasses (classes_without c bs classes)
  unfolding without_class
  fewer_sound row e is [] up fewer fit = from_rows (without_row class_key (key_of_class c) classes) (without_sound_row class_key IsKeptClass most.classes (key_of_class c) classes rows_sound)
  fewer_sound row e is (b ∷ bs) up fewer fit = put_class row (b ∷ bs) e is (record { ascend = up; some = omega arith; few = omega (arith, fewer, (of_row row is).few); fit = fit })

  unbind_cases_sound : (o : Option ClassRow) → is_class c ≡ true → class_at c classes ≡ o → OfClasses IsSoundClasses (unbind_cases c a classes o)
  unfolding without_addr
  unbind_cases_sound None e is = tt
  unbind_cases_sound (Some row) e is = cond_classes IsSoundClasses (has_addr a row.addrs) (classes_done Unbound (classes_without c (without_addr a row.addrs) classes)) (Err NotBound)
      (λ _. fewer_sound row e is (without_addr a row.addrs) (without_addr_ascends a row.addrs (of_row row is).ascend)
      (filter_few (λ b. not (same_addr b a)) row.addrs)
      (without_addr_each a row.addrs (of_row row is).fit))
      (λ _. tt)

  pub sound-unbind_step : is_class c ≡ true → OfClasses IsSoundClasses (unbind_step c a classes)
  unfolding unbind_step
  sound-unbind_step e = unbind_cases_sound (class_at c classes) e refl
