-- Items that are taken one after the other are those of sound lists, and the items of sound lists are taken.
use Rattle.std.proofs.Common.{◌≡◌, ℕ, ◌≤◌, ◌<◌, ◌^◌, ◌==◌, Bool, true, cond, ◌&&◌, List, [], ◌∷◌, ◌++◌, length, map, Option, Some, None, refl, sym, ap, subst, ◌∙◌, append_assoc, arith, inl, inr}
use Rattle.std.specs.Prelude.{nat_lt, nat_le, option_map}
use Rattle.std.specs.List.{list_all, AllByRecursion}
use Rattle.std.proofs.lemmas.Bool.{eqb-true, ltb-true, lt-ltb, leb-true, le-leb}
use Rattle.std.proofs.lemmas.Option.{none-some}
use Rattle.std.proofs.lemmas.List.{append-nil, nil_from_length, length-append}
use Rattle.mud_base.specs.declared.prefix.Prefix.{Prefix}
use Rattle.base_rows.specs.Sortable.{SortKeysAscend, comes_last}
use Rattle.base_rows.proofs.SortableLaws.{ascend-push}
use Rattle.base_rows.proofs.Lists.{all_push}
use Rattle.mud_world.specs.declared.item.Item.{Item}
use Rattle.mud_base.specs.Numbers.{IsOctets}
use Rattle.item_codec.specs.Records.{◌>>=◌}
use Rattle.item_codec.proofs.RecordLaws.{some_is, bind_some, pass_some, chosen}
use Rattle.table_model.specs.declared.thing.Thing.{Thing}
use Rattle.table_model.specs.declared.bind.ClassRow.{ClassRow}
use Rattle.table_model.specs.declared.bind.NameRow.{NameRow}
use Rattle.table_model.specs.Limits.{most}
use Rattle.table_model.specs.ItemFields.{IsNetwork}
use Rattle.table_model.specs.Things.{IsKeptThing, IsSoundThings}
use Rattle.table_model.specs.Binds.{Binds, class_key, name_of, is_prefix, are_prefixes, IsKeptClass, IsKeptNetwork, IsKeptName, IsSoundClasses, IsSoundLocals, IsSoundNames, IsSoundBinds}
use Rattle.table_model.specs.ThingItems.{thing_item, thing_items, thing_in, item_anew, in_second, may_follow, with_thing_item, IsThingItem}
use Rattle.table_model.specs.BindItems.{class_item, class_in, with_class_item, locals_item, locals_items, are_locals, with_locals_item, name_item, name_in, with_name_item, IsKeptLocals, IsClassItem, IsLocalsItem, IsNameItem}
use Rattle.table_model.specs.TakenItems.{all_taken, no_binds, bind_items, is_empty, set_classes, set_locals, set_names, with_bind_item}
use Rattle.table_model.proofs.RowSets.{left_of, right_of, both, all_behind, map_push, fewer_before, behind_others}
use Rattle.table_model.proofs.LeaseLaws.{all_from, all_to}
use Rattle.table_model.proofs.ItemLaws.{thing_back, thing_alone, class_back, class_alone, locals_back, locals_alone, name_back, name_alone}
use Rattle.table_model.proofs.ReadThings.{sound-push, follows-sound}
use Rattle.table_model.proofs.Parts.{class_items, name_items}

-- ---- One row more, read from its item

module _ {R : Type 0} (sort_key : R → List ℕ) (limit : ℕ) (read : Item → Option R) where
  abbrev pushes : List R → R → Bool
  pushes rows row = comes_last sort_key row rows && nat_lt (length rows) limit

  abbrev with_read : List R → Item → Option (List R)
  with_read rows item = read item >>= λ row. cond (pushes rows row) (Some (rows ++ row ∷ [])) None

  pub record IsPushed (rows : List R) (item : Item) (after : List R) : Type 0 where
    pub row : R
    pub is : read item ≡ Some row
    pub last : comes_last sort_key row rows ≡ true
    pub room : length rows < limit
    pub after_is : rows ++ row ∷ [] ≡ after

  pushed : (rows : List R) (item : Item) (after : List R) → with_read rows item ≡ Some after → IsPushed rows item after
  pushed rows item after e =
      let b = bind_some (read item) (λ row. cond (pushes rows row) (Some (rows ++ row ∷ [])) None) after e in
      let p = pass_some (pushes rows b.0) after (Some (rows ++ b.0 ∷ [])) b.2 in
      record {
        row = b.0;
        is = b.1;
        last = left_of (comes_last sort_key b.0 rows) (nat_lt (length rows) limit) p.0;
        room = ltb-true (length rows) limit (right_of (comes_last sort_key b.0 rows) (nat_lt (length rows) limit) p.0);
        after_is = some_is (rows ++ b.0 ∷ []) after p.1;
      }

  read_behind : (item : Item) (xs : List R) (t : R) (ys : List R) → SortKeysAscend sort_key (xs ++ t ∷ ys) → length (xs ++ t ∷ ys) ≤ limit → read item ≡ Some t → with_read xs item ≡ Some (xs ++ t ∷ [])
  read_behind item xs t ys up few is =
      rw (is, behind_others sort_key xs t ys up, lt-ltb (length xs) limit (omega (arith, fewer_before xs t ys, few))) refl

one_more : {A : Type 0} (xs : List A) (x : A) (n : ℕ) → length xs < n → length (xs ++ x ∷ []) ≤ n
one_more xs x n room = omega (arith, room, length-append xs (x ∷ []))

-- ---- Each list

-- the list after it is sound, and has one item more
pub record IsTaken {R : Type 0} (Sound : R → Type 0) (items_of : R → List Item) (before : R) (item : Item) (after : R) : Type 0 where
  pub sound : Sound after
  pub items : items_of after ≡ items_of before ++ item ∷ []

class_taken : (classes : List ClassRow) (item : Item) (after : List ClassRow) → IsSoundClasses classes → IsOctets item.body → with_class_item classes item ≡ Some after → IsTaken IsSoundClasses class_items classes item after
unfolding with_class_item
class_taken classes item after sound octets e =
    let p = pushed class_key most.classes class_in classes item after e in
    let of_row : IsClassItem item p.row = class_alone item p.row octets p.is in
    subst (λ (rows : List ClassRow). IsTaken IsSoundClasses class_items classes item rows) p.after_is (record {
      sound = record { ascend = ascend-push class_key p.row classes sound.ascend p.last; each = all_push IsKeptClass classes p.row sound.each of_row.kept; few = one_more classes p.row most.classes p.room };
      items = map_push class_item classes p.row ∙ ap (λ (i : Item). map class_item classes ++ i ∷ []) (sym of_row.same);
    })

name_taken : (names : List NameRow) (item : Item) (after : List NameRow) → IsSoundNames names → IsOctets item.body → with_name_item names item ≡ Some after → IsTaken IsSoundNames name_items names item after
unfolding with_name_item
name_taken names item after sound octets e =
    let p = pushed name_of most.names name_in names item after e in
    let of_row : IsNameItem item p.row = name_alone item p.row octets p.is in
    subst (λ (rows : List NameRow). IsTaken IsSoundNames name_items names item rows) p.after_is (record {
      sound = record { ascend = ascend-push name_of p.row names sound.ascend p.last; each = all_push IsKeptName names p.row sound.each of_row.kept; few = one_more names p.row most.names p.room };
      items = map_push name_item names p.row ∙ ap (λ (i : Item). map name_item names ++ i ∷ []) (sym of_row.same);
    })

all_networks : (locals : List Prefix) → AllByRecursion (λ p. is_prefix p ≡ true) locals → AllByRecursion IsNetwork locals → AllByRecursion IsKeptNetwork locals
all_networks [] sound fits = tt
all_networks (p ∷ ps) sound fits = (record { sound = sound.0; fits = fits.0 }, all_networks ps sound.1 fits.1)

sound_networks : (locals : List Prefix) → AllByRecursion IsKeptNetwork locals → AllByRecursion (λ p. is_prefix p ≡ true) locals
sound_networks [] kept = tt
sound_networks (p ∷ ps) kept = (kept.0.sound, sound_networks ps kept.1)

pub fitting_networks : (locals : List Prefix) → AllByRecursion IsKeptNetwork locals → AllByRecursion IsNetwork locals
fitting_networks [] kept = tt
fitting_networks (p ∷ ps) kept = (kept.0.fits, fitting_networks ps kept.1)

-- local networks that have an item are sound
sound_locals : (locals : List Prefix) → IsKeptLocals locals → IsSoundLocals locals
unfolding are_locals
sound_locals locals kept =
    let front : (are_prefixes locals && list_all is_prefix locals && nat_lt 0 (length locals)) ≡ true = left_of (are_prefixes locals && list_all is_prefix locals && nat_lt 0 (length locals)) (nat_le (length locals) most.locals) kept.sound in
    let both_of : (are_prefixes locals && list_all is_prefix locals) ≡ true = left_of (are_prefixes locals && list_all is_prefix locals) (nat_lt 0 (length locals)) front in
    record {
      ascend = left_of (are_prefixes locals) (list_all is_prefix locals) both_of;
      each = all_networks locals (all_from is_prefix locals (right_of (are_prefixes locals) (list_all is_prefix locals) both_of)) kept.fits.each;
      few = leb-true (length locals) most.locals (right_of (are_prefixes locals && list_all is_prefix locals && nat_lt 0 (length locals)) (nat_le (length locals) most.locals) kept.sound);
    }

-- their number fits its field
pub few_fit : (n : ℕ) → n ≤ most.locals → n < 2 ^ 16
few_fit n few = omega (arith, few)

-- and sound ones, where there are some, have one
kept_locals : (p : Prefix) (ps : List Prefix) → IsSoundLocals (p ∷ ps) → IsKeptLocals (p ∷ ps)
unfolding are_locals
kept_locals p ps sound = record {
  sound =
      both (are_prefixes (p ∷ ps) && list_all is_prefix (p ∷ ps) && nat_lt 0 (length (p ∷ ps))) (nat_le (length (p ∷ ps)) most.locals)
      (both (are_prefixes (p ∷ ps) && list_all is_prefix (p ∷ ps)) (nat_lt 0 (length (p ∷ ps)))
      (both (are_prefixes (p ∷ ps)) (list_all is_prefix (p ∷ ps)) sound.ascend (all_to is_prefix (p ∷ ps) (sound_networks (p ∷ ps) sound.each)))
      (lt-ltb 0 (length (p ∷ ps)) (omega arith)))
      (le-leb (length (p ∷ ps)) most.locals sound.few);
  fits = record { few = few_fit (length (p ∷ ps)) sound.few; each = fitting_networks (p ∷ ps) sound.each };
}

some_locals : (locals : List Prefix) → IsKeptLocals locals → locals_items locals ≡ locals_item locals ∷ []
unfolding locals_items are_locals
some_locals [] kept = absurd (none_there (right_of (are_prefixes [] && list_all is_prefix []) (nat_lt 0 0) (left_of (are_prefixes [] && list_all is_prefix [] && nat_lt 0 0) (nat_le 0 most.locals) kept.sound)))
  where
    none_there : nat_lt 0 0 ≡ true → ⊥
    none_there e = omega (arith, ltb-true 0 0 e)
some_locals (p ∷ ps) kept = refl

locals_taken : (locals : List Prefix) (item : Item) (after : List Prefix) → IsOctets item.body → with_locals_item locals item ≡ Some after → IsTaken IsSoundLocals locals_items locals item after
unfolding with_locals_item locals_items
locals_taken [] item after octets e =
    let of_locals : IsLocalsItem item after = locals_alone item after octets e in
    record { sound = sound_locals after of_locals.kept; items = some_locals after of_locals.kept ∙ ap (λ (i : Item). i ∷ []) (sym of_locals.same) }
locals_taken (p ∷ ps) item after octets e = absurd (none-some after e)

-- ---- All of them

abbrev the_binds : List ClassRow → List Prefix → List NameRow → Binds
the_binds classes locals names = record { classes = classes; locals = locals; names = names }

pub mapped_some : {A B : Type 0} (f : A → B) (o : Option A) (y : B) → option_map f o ≡ Some y → (x : A) × (o ≡ Some x) × (f x ≡ y)
mapped_some f (Some x) y e = (x, refl, some_is (f x) y e)
mapped_some f None y e = absurd (none-some y e)

pub nothing_there : {A : Type 0} (xs : List A) → is_empty xs ≡ true → xs ≡ []
nothing_there xs e = nil_from_length xs (eqb-true (length xs) 0 e)

-- no local network and no name
no_items : (locals : List Prefix) (names : List NameRow) → locals ≡ [] → names ≡ [] → locals_items locals ++ name_items names ≡ []
unfolding locals_items
no_items locals names e f = ap (λ (ls : List Prefix). locals_items ls ++ name_items names) e ∙ ap name_items f

no_names : (names : List NameRow) → names ≡ [] → name_items names ≡ []
no_names names f = ap name_items f

class_behind : (binds : Binds) (item : Item) (classes : List ClassRow) → IsSoundBinds binds → binds.locals ≡ [] → binds.names ≡ [] → IsTaken IsSoundClasses class_items binds.classes item classes → IsTaken IsSoundBinds bind_items binds item (set_classes binds classes)
unfolding bind_items set_classes
class_behind binds item classes sound e f taken =
    let none : locals_items binds.locals ++ name_items binds.names ≡ [] = no_items binds.locals binds.names e f in
    record {
      sound = record { classes = taken.sound; locals = sound.locals; names = sound.names };
      items =
          ap (λ (t : List Item). class_items classes ++ t) none ∙ append-nil (class_items classes) ∙ taken.items
          ∙ sym (ap (λ (t : List Item). (class_items binds.classes ++ t) ++ item ∷ []) none ∙ ap (λ (t : List Item). t ++ item ∷ []) (append-nil (class_items binds.classes)));
    }

locals_behind : (binds : Binds) (item : Item) (locals : List Prefix) → IsSoundBinds binds → binds.names ≡ [] → IsTaken IsSoundLocals locals_items binds.locals item locals → IsTaken IsSoundBinds bind_items binds item (set_locals binds locals)
unfolding bind_items set_locals
locals_behind binds item locals sound f taken =
    let none : name_items binds.names ≡ [] = no_names binds.names f in
    let own : List Item = locals_items binds.locals in
    record {
      sound = record { classes = sound.classes; locals = taken.sound; names = sound.names };
      items =
          ap (λ (t : List Item). class_items binds.classes ++ (locals_items locals ++ t)) none
          ∙ ap (λ (t : List Item). class_items binds.classes ++ t) (append-nil (locals_items locals) ∙ taken.items)
          ∙ sym (append_assoc (class_items binds.classes) own (item ∷ []))
          ∙ sym (ap (λ (t : List Item). (class_items binds.classes ++ (own ++ t)) ++ item ∷ []) none ∙ ap (λ (t : List Item). (class_items binds.classes ++ t) ++ item ∷ []) (append-nil own));
    }

name_behind : (binds : Binds) (item : Item) (names : List NameRow) → IsSoundBinds binds → IsTaken IsSoundNames name_items binds.names item names → IsTaken IsSoundBinds bind_items binds item (set_names binds names)
unfolding bind_items set_names
name_behind binds item names sound taken =
    let own : List Item = locals_items binds.locals in
    record {
      sound = record { classes = sound.classes; locals = sound.locals; names = taken.sound };
      items =
          ap (λ (t : List Item). class_items binds.classes ++ (own ++ t)) taken.items
          ∙ ap (λ (t : List Item). class_items binds.classes ++ t) (sym (append_assoc own (name_items binds.names) (item ∷ [])))
          ∙ sym (append_assoc (class_items binds.classes) (own ++ name_items binds.names) (item ∷ []));
    }

-- the three kinds, one by one
by_class : (binds : Binds) (item : Item) (after : Binds) → IsSoundBinds binds → IsOctets item.body → (item.kind == 3 && is_empty binds.locals && is_empty binds.names) ≡ true → option_map (set_classes binds) (with_class_item binds.classes item) ≡ Some after → IsTaken IsSoundBinds bind_items binds item after
by_class binds item after sound octets here e =
    let x = mapped_some (set_classes binds) (with_class_item binds.classes item) after e in
    let kind_and_locals : (item.kind == 3 && is_empty binds.locals) ≡ true = left_of (item.kind == 3 && is_empty binds.locals) (is_empty binds.names) here in
    subst (λ (b : Binds). IsTaken IsSoundBinds bind_items binds item b) x.2
    (class_behind binds item x.0 sound (nothing_there binds.locals (right_of (item.kind == 3) (is_empty binds.locals) kind_and_locals)) (nothing_there binds.names (right_of (item.kind == 3 && is_empty binds.locals) (is_empty binds.names) here))
    (class_taken binds.classes item x.0 sound.classes octets x.1))

by_locals : (binds : Binds) (item : Item) (after : Binds) → IsSoundBinds binds → IsOctets item.body → (item.kind == 4 && is_empty binds.names) ≡ true → option_map (set_locals binds) (with_locals_item binds.locals item) ≡ Some after → IsTaken IsSoundBinds bind_items binds item after
by_locals binds item after sound octets here e =
    let x = mapped_some (set_locals binds) (with_locals_item binds.locals item) after e in
    subst (λ (b : Binds). IsTaken IsSoundBinds bind_items binds item b) x.2
    (locals_behind binds item x.0 sound (nothing_there binds.names (right_of (item.kind == 4) (is_empty binds.names) here)) (locals_taken binds.locals item x.0 octets x.1))

by_name : (binds : Binds) (item : Item) (after : Binds) → IsSoundBinds binds → IsOctets item.body → option_map (set_names binds) (with_name_item binds.names item) ≡ Some after → IsTaken IsSoundBinds bind_items binds item after
by_name binds item after sound octets e =
    let x = mapped_some (set_names binds) (with_name_item binds.names item) after e in
    subst (λ (b : Binds). IsTaken IsSoundBinds bind_items binds item b) x.2 (name_behind binds item x.0 sound (name_taken binds.names item x.0 sound.names octets x.1))

pub bind_taken : (binds : Binds) (item : Item) (after : Binds) → IsSoundBinds binds → IsOctets item.body → with_bind_item binds item ≡ Some after → IsTaken IsSoundBinds bind_items binds item after
unfolding with_bind_item
bind_taken binds item after sound octets e =
    let classes : Option Binds = option_map (set_classes binds) (with_class_item binds.classes item) in
    let locals : Option Binds = option_map (set_locals binds) (with_locals_item binds.locals item) in
    let names : Option Binds = option_map (set_names binds) (with_name_item binds.names item) in
    elim (chosen (item.kind == 3 && is_empty binds.locals && is_empty binds.names) classes (cond (item.kind == 4 && is_empty binds.names) locals (cond (item.kind == 5) names None)) (Some after) e) [
      | inl class ↦ by_class binds item after sound octets class.0 class.1
      | inr no_class ↦ elim (chosen (item.kind == 4 && is_empty binds.names) locals (cond (item.kind == 5) names None) (Some after) no_class.1) [
        | inl local ↦ by_locals binds item after sound octets local.0 local.1
        | inr no_local ↦ by_name binds item after sound octets (pass_some (item.kind == 5) after names no_local.1).1
      ]
    ]

-- every item of a list that is taken is one of the lists after it
pub binds_taken : (binds : Binds) (items : List Item) (after : Binds) → IsSoundBinds binds → AllByRecursion (λ item. IsOctets item.body) items → all_taken with_bind_item binds items ≡ Some after → IsSoundBinds after × (bind_items after ≡ bind_items binds ++ items)
binds_taken binds [] after sound octets e = (subst IsSoundBinds (some_is binds after e) sound, ap bind_items (sym (some_is binds after e)) ∙ sym (append-nil (bind_items binds)))
binds_taken binds (item ∷ items) after sound octets e =
    let b = bind_some (with_bind_item binds item) (λ next. all_taken with_bind_item next items) after e in
    let one : IsTaken IsSoundBinds bind_items binds item b.0 = bind_taken binds item b.0 sound octets.0 b.1 in
    let rest = binds_taken b.0 items after one.sound octets.1 b.2 in
    (rest.0, rest.1 ∙ ap (λ (t : List Item). t ++ items) one.items ∙ append_assoc (bind_items binds) (item ∷ []) items)

-- ---- The items of sound lists are taken

pub all_taken-append : {T : Type 0} (take : T → Item → Option T) (before : T) (xs ys : List Item) (middle : T) → all_taken take before xs ≡ Some middle → all_taken take before (xs ++ ys) ≡ all_taken take middle ys
all_taken-append take before [] ys middle e = ap (λ (t : _). all_taken take t ys) (some_is before middle e)
all_taken-append take before (x ∷ xs) ys middle e =
    let b = bind_some (take before x) (λ next. all_taken take next xs) middle e in
    ap (λ (o : Option _). o >>= λ next. all_taken take next (xs ++ ys)) b.1 ∙ all_taken-append take b.0 xs ys middle b.2

module _ {T R : Type 0} (take : T → Item → Option T) (so_far : List R → T) (spell : R → Item) (rows : List R) where
  rows_taken : ((xs : List R) (t : R) (ys : List R) → xs ++ t ∷ ys ≡ rows → take (so_far xs) (spell t) ≡ Some (so_far (xs ++ t ∷ []))) → (xs ys : List R) → xs ++ ys ≡ rows → all_taken take (so_far xs) (map spell ys) ≡ Some (so_far (xs ++ ys))
  rows_taken step xs [] e = ap (λ (t : List R). Some (so_far t)) (sym (append-nil xs))
  rows_taken step xs (t ∷ ys) e =
      ap (λ (o : Option T). o >>= λ next. all_taken take next (map spell ys)) (step xs t ys e)
      ∙ rows_taken step (xs ++ t ∷ []) ys (append_assoc xs (t ∷ []) ys ∙ e)
      ∙ ap (λ (l : List R). Some (so_far l)) (append_assoc xs (t ∷ []) ys)

-- ---- Things

thing_step : (xs : List Thing) (t : Thing) (ys : List Thing) → IsSoundThings (xs ++ t ∷ ys) → with_thing_item xs (thing_item t) ≡ Some (xs ++ t ∷ [])
unfolding with_thing_item
thing_step xs t ys sound = rw (thing_back t (all_behind IsKeptThing xs t ys sound.each), follows-sound xs t ys sound) refl

pub things_again : (things : List Thing) → IsSoundThings things → all_taken with_thing_item [] (thing_items things) ≡ Some things
unfolding thing_items
things_again things sound = rows_taken with_thing_item (λ xs. xs) thing_item things (λ xs t ys e. thing_step xs t ys (subst IsSoundThings (sym e) sound)) [] things refl

second_is : (item : Item) (thing : Thing) → thing_in item ≡ Some thing → in_second item ≡ thing_item thing
unfolding in_second item_anew
second_is item thing e = rw e refl

thing_taken : (things : List Thing) (item : Item) (after : List Thing) → IsSoundThings things → IsOctets item.body → with_thing_item things item ≡ Some after → IsTaken IsSoundThings thing_items things (in_second item) after
unfolding with_thing_item thing_items
thing_taken things item after sound octets e =
    let b = bind_some (thing_in item) (λ thing. cond (may_follow things thing) (Some (things ++ thing ∷ [])) None) after e in
    let p = pass_some (may_follow things b.0) after (Some (things ++ b.0 ∷ [])) b.2 in
    let of_thing : IsThingItem item b.0 = thing_alone item b.0 octets b.1 in
    subst (λ (ts : List Thing). IsTaken IsSoundThings thing_items things (in_second item) ts) (some_is (things ++ b.0 ∷ []) after p.1) (record {
      sound = sound-push things b.0 sound of_thing.kept p.0;
      items = map_push thing_item things b.0 ∙ ap (λ (i : Item). map thing_item things ++ i ∷ []) (sym (second_is item b.0 b.1));
    })

pub things_taken : (things : List Thing) (items : List Item) (after : List Thing) → IsSoundThings things → AllByRecursion (λ item. IsOctets item.body) items → all_taken with_thing_item things items ≡ Some after → IsSoundThings after × (thing_items after ≡ thing_items things ++ map in_second items)
things_taken things [] after sound octets e = (subst IsSoundThings (some_is things after e) sound, ap thing_items (sym (some_is things after e)) ∙ sym (append-nil (thing_items things)))
things_taken things (item ∷ items) after sound octets e =
    let b = bind_some (with_thing_item things item) (λ next. all_taken with_thing_item next items) after e in
    let one : IsTaken IsSoundThings thing_items things (in_second item) b.0 = thing_taken things item b.0 sound octets.0 b.1 in
    let rest = things_taken b.0 items after one.sound octets.1 b.2 in
    (rest.0, rest.1 ∙ ap (λ (t : List Item). t ++ map in_second items) one.items ∙ append_assoc (thing_items things) (in_second item ∷ []) (map in_second items))

pub no_things : IsSoundThings []
no_things = record { ascend = tt; each = tt; few = omega arith; alone = λ a p q t u at_p at_q has_t has_u. absurd (none-some t at_p) }

-- ---- Classes, local networks and names

class_step : (xs : List ClassRow) (t : ClassRow) (ys : List ClassRow) → IsSoundClasses (xs ++ t ∷ ys) → with_bind_item (record { classes = xs; locals = []; names = [] }) (class_item t) ≡ Some (record { classes = xs ++ t ∷ []; locals = []; names = [] })
unfolding with_bind_item set_classes with_class_item class_item
class_step xs t ys sound =
    ap (option_map (λ (rows : List ClassRow). the_binds rows [] []))
    (read_behind class_key most.classes class_in (class_item t) xs t ys sound.ascend sound.few (class_back t (all_behind IsKeptClass xs t ys sound.each)))

name_step : (classes : List ClassRow) (locals : List Prefix) (xs : List NameRow) (t : NameRow) (ys : List NameRow) → IsSoundNames (xs ++ t ∷ ys) → with_bind_item (record { classes = classes; locals = locals; names = xs }) (name_item t) ≡ Some (record { classes = classes; locals = locals; names = xs ++ t ∷ [] })
unfolding with_bind_item set_names with_name_item name_item
name_step classes locals xs t ys sound =
    ap (option_map (λ (rows : List NameRow). the_binds classes locals rows))
    (read_behind name_of most.names name_in (name_item t) xs t ys sound.ascend sound.few (name_back t (all_behind IsKeptName xs t ys sound.each)))

locals_again : (classes : List ClassRow) (locals : List Prefix) → IsSoundLocals locals → all_taken with_bind_item (the_binds classes [] []) (locals_items locals) ≡ Some (the_binds classes locals [])
unfolding locals_items with_bind_item set_locals with_locals_item locals_item
locals_again classes [] sound = refl
locals_again classes (p ∷ ps) sound = rw (locals_back (p ∷ ps) (kept_locals p ps sound)) refl

pub binds_again : (binds : Binds) → IsSoundBinds binds → all_taken with_bind_item no_binds (bind_items binds) ≡ Some binds
unfolding bind_items no_binds
binds_again binds sound =
    let classes : all_taken with_bind_item (the_binds [] [] []) (map class_item binds.classes) ≡ Some (the_binds binds.classes [] []) =
    rows_taken with_bind_item (λ xs. the_binds xs [] []) class_item binds.classes (λ xs t ys e. class_step xs t ys (subst IsSoundClasses (sym e) sound.classes)) [] binds.classes refl in
    let names : all_taken with_bind_item (the_binds binds.classes binds.locals []) (map name_item binds.names) ≡ Some binds =
    rows_taken with_bind_item (λ xs. the_binds binds.classes binds.locals xs) name_item binds.names (λ xs t ys e. name_step binds.classes binds.locals xs t ys (subst IsSoundNames (sym e) sound.names)) [] binds.names refl in
    all_taken-append with_bind_item (the_binds [] [] []) (map class_item binds.classes) (locals_items binds.locals ++ map name_item binds.names) (the_binds binds.classes [] []) classes
    ∙ all_taken-append with_bind_item (the_binds binds.classes [] []) (locals_items binds.locals) (map name_item binds.names) (the_binds binds.classes binds.locals []) (locals_again binds.classes binds.locals sound.locals)
    ∙ names

pub sound_no_binds : IsSoundBinds no_binds
unfolding no_binds are_prefixes
sound_no_binds = record {
  classes = record { ascend = tt; each = tt; few = omega arith };
  locals = record { ascend = refl; each = tt; few = omega arith };
  names = record { ascend = tt; each = tt; few = omega arith };
}

-- ---- From nothing

pub things_taken_all : (items : List Item) (things : List Thing) → AllByRecursion (λ item. IsOctets item.body) items → all_taken with_thing_item [] items ≡ Some things → IsSoundThings things × (thing_items things ≡ map in_second items)
unfolding thing_items
things_taken_all items things octets e = things_taken [] items things no_things octets e

pub binds_taken_all : (items : List Item) (binds : Binds) → AllByRecursion (λ item. IsOctets item.body) items → all_taken with_bind_item no_binds items ≡ Some binds → IsSoundBinds binds × (bind_items binds ≡ items)
unfolding bind_items no_binds locals_items
binds_taken_all items binds octets e = binds_taken no_binds items binds sound_no_binds octets e
