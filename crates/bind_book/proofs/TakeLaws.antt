-- What is taken of an item, and that the lists with it are sound.
use Rattle.std.proofs.Common.{◌≡◌, ℕ, ◌<◌, ◌≤◌, Bool, true, false, cond, ◌&&◌, List, [], ◌∷◌, ◌++◌, length, Option, Some, None, IsTrue, refl, sym, ap, subst, ◌∙◌, arith}
use Rattle.std.specs.Prelude.{option_map, ◌==◌, nat_lt}
use Rattle.std.proofs.lemmas.Bool.{eqb-true, lt-ltb, le-ltb}
use Rattle.mud_base.specs.declared.prefix.Prefix.{Prefix}
use Rattle.base_rows.specs.Sortable.{comes_last}
use Rattle.mud_world.specs.declared.item.Item.{Item}
use Rattle.mud_base.specs.Numbers.{IsOctets}
use Rattle.item_codec.specs.Records.{◌>>=◌}
use Rattle.table_model.specs.declared.bind.ClassRow.{ClassRow}
use Rattle.table_model.specs.declared.bind.NameRow.{NameRow}
use Rattle.table_model.specs.Limits.{most}
use Rattle.table_model.specs.Binds.{Binds, class_key, name_of, IsSoundBinds}
use Rattle.table_model.specs.BindItems.{class_in, with_class_item, locals_in, with_locals_item, name_in, with_name_item}
use Rattle.table_model.specs.TakenItems.{is_empty, set_classes, set_locals, set_names, with_bind_item}
use Rattle.table_model.proofs.RowSets.{left_of}
use Rattle.table_model.proofs.TakenLaws.{bind_taken}
use Rattle.bind_book.specs.Reading.{IsTaken}

-- ---- Rows behind others

module _ {R : Type 0} (sort_key : R → List ℕ) (limit : ℕ) (rows : List R) where
  abbrev with_row : R → Option (List R)
  with_row row = cond (comes_last sort_key row rows && nat_lt (length rows) limit) (Some (rows ++ row ∷ [])) None

  with_last : (o : Option R) (row : R) (b : Bool) → o ≡ Some row → length rows < limit → b ≡ comes_last sort_key row rows → (o >>= with_row) ≡ cond b (Some (rows ++ row ∷ [])) None
  with_last o row b is room last =
      ap (λ x. x >>= with_row) is
      ∙ ap (λ t. cond (t && nat_lt (length rows) limit) (Some (rows ++ row ∷ [])) None) (sym last)
      ∙ ap (λ t. cond (b && t) (Some (rows ++ row ∷ [])) None) (lt-ltb (length rows) limit room)
      ∙ by_test b
    where
      by_test : (t : Bool) → cond (t && true) (Some (rows ++ row ∷ [])) None ≡ cond t (Some (rows ++ row ∷ [])) None
      by_test true = refl
      by_test false = refl

  without_room : (o : Option R) → limit ≤ length rows → (o >>= with_row) ≡ None
  without_room None full = refl
  without_room (Some row) full = ap (λ t. cond (comes_last sort_key row rows && t) (Some (rows ++ row ∷ [])) None) (le-ltb (length rows) limit full) ∙ by_test (comes_last sort_key row rows)
    where
      by_test : (t : Bool) → cond (t && false) (Some (rows ++ row ∷ [])) None ≡ None
      by_test true = refl
      by_test false = refl

-- nothing is taken
pub not_taken : {A : Type 0} (set : Binds → A → Binds) (o : Option A) (binds : Binds) → o ≡ None → IsTaken (option_map (set binds) o) binds binds false
not_taken set o binds none = subst (λ x. IsTaken (option_map (set binds) x) binds binds false) (sym none) (refl, refl)

-- a row is taken, or isn't
by_push : {R : Type 0} (set : Binds → List R → Binds) (binds new : Binds) (o : Option (List R)) (rows pushed : List R) (b : Bool) → o ≡ cond b (Some pushed) None → new ≡ set binds (cond b pushed rows) → set binds rows ≡ binds → IsTaken (option_map (set binds) o) binds new b
by_push set binds new o rows pushed true is made here = subst (λ x. IsTaken (option_map (set binds) x) binds new true) (sym is) (refl, made)
by_push set binds new o rows pushed false is made here = subst (λ x. IsTaken (option_map (set binds) x) binds new false) (sym is) (refl, made ∙ here)

-- ---- Classes

pub full_classes : (classes : List ClassRow) (item : Item) → most.classes ≤ length classes → with_class_item classes item ≡ None
unfolding with_class_item
full_classes classes item full = without_room class_key most.classes classes (class_in item) full

pub no_class_taken : (classes : List ClassRow) (item : Item) → class_in item ≡ None → with_class_item classes item ≡ None
unfolding with_class_item
no_class_taken classes item none = ap (λ o. o >>= with_row class_key most.classes classes) none

module _ (binds : Binds) (item : Item) (row : ClassRow) (b : Bool) (is : class_in item ≡ Some row) (room : length binds.classes < most.classes) (last : b ≡ comes_last class_key row binds.classes) where
  with_class : with_class_item binds.classes item ≡ cond b (Some (binds.classes ++ row ∷ [])) None
  unfolding with_class_item
  with_class = with_last class_key most.classes binds.classes (class_in item) row b is room last

  pub class_taken : (new : List ClassRow) → new ≡ cond b (binds.classes ++ row ∷ []) binds.classes → IsTaken (option_map (set_classes binds) (with_class_item binds.classes item)) binds (record { classes = new; locals = binds.locals; names = binds.names }) b
  unfolding set_classes
  class_taken new made = by_push set_classes binds (record { classes = new; locals = binds.locals; names = binds.names }) (with_class_item binds.classes item) binds.classes (binds.classes ++ row ∷ []) b with_class (ap (λ classes. record binds { classes = classes }) made) refl

pub class_sound : (binds : Binds) (item : Item) (row : ClassRow) (b : Bool) → class_in item ≡ Some row → length binds.classes < most.classes → b ≡ comes_last class_key row binds.classes → (new : List ClassRow) → new ≡ cond b (binds.classes ++ row ∷ []) binds.classes
    → IsSoundBinds binds → IsOctets item.body → IsTrue (item.kind == 3 && is_empty binds.locals && is_empty binds.names) → IsSoundBinds (record { classes = new; locals = binds.locals; names = binds.names })
unfolding with_bind_item set_classes
class_sound binds item row true is room last new made sound octets here =
    subst (λ classes. IsSoundBinds (record binds { classes = classes })) (sym made)
    (bind_taken binds item (record binds { classes = binds.classes ++ row ∷ [] }) sound octets
    (ap (λ t. cond t (option_map (set_classes binds) (with_class_item binds.classes item)) (cond (item.kind == 4 && is_empty binds.names) (option_map (set_locals binds) (with_locals_item binds.locals item)) (cond (item.kind == 5) (option_map (set_names binds) (with_name_item binds.names item)) None))) here
    ∙ ap (option_map (set_classes binds)) (with_class binds item row true is room last))).sound
class_sound binds item row false is room last new made sound octets here = subst (λ classes. IsSoundBinds (record binds { classes = classes })) (sym made) sound

-- ---- Names

pub full_names : (names : List NameRow) (item : Item) → most.names ≤ length names → with_name_item names item ≡ None
unfolding with_name_item
full_names names item full = without_room name_of most.names names (name_in item) full

pub no_name_taken : (names : List NameRow) (item : Item) → name_in item ≡ None → with_name_item names item ≡ None
unfolding with_name_item
no_name_taken names item none = ap (λ o. o >>= with_row name_of most.names names) none

module _ (binds : Binds) (item : Item) (row : NameRow) (b : Bool) (is : name_in item ≡ Some row) (room : length binds.names < most.names) (last : b ≡ comes_last name_of row binds.names) where
  with_name : with_name_item binds.names item ≡ cond b (Some (binds.names ++ row ∷ [])) None
  unfolding with_name_item
  with_name = with_last name_of most.names binds.names (name_in item) row b is room last

  pub name_taken : (new : List NameRow) → new ≡ cond b (binds.names ++ row ∷ []) binds.names → IsTaken (option_map (set_names binds) (with_name_item binds.names item)) binds (record { classes = binds.classes; locals = binds.locals; names = new }) b
  unfolding set_names
  name_taken new made = by_push set_names binds (record { classes = binds.classes; locals = binds.locals; names = new }) (with_name_item binds.names item) binds.names (binds.names ++ row ∷ []) b with_name (ap (λ names. record binds { names = names }) made) refl

-- an item of the kind of names
pub name_here : (binds : Binds) (item : Item) → IsTrue (item.kind == 5) → with_bind_item binds item ≡ option_map (set_names binds) (with_name_item binds.names item)
unfolding with_bind_item
name_here binds item here =
    ap (λ k. cond (k == 3 && is_empty binds.locals && is_empty binds.names) (option_map (set_classes binds) (with_class_item binds.classes item)) (cond (k == 4 && is_empty binds.names) (option_map (set_locals binds) (with_locals_item binds.locals item)) (cond (k == 5) (option_map (set_names binds) (with_name_item binds.names item)) None))) (eqb-true item.kind 5 here)

pub name_sound : (binds : Binds) (item : Item) (row : NameRow) (b : Bool) → name_in item ≡ Some row → length binds.names < most.names → b ≡ comes_last name_of row binds.names → (new : List NameRow) → new ≡ cond b (binds.names ++ row ∷ []) binds.names
    → IsSoundBinds binds → IsOctets item.body → IsTrue (item.kind == 5) → IsSoundBinds (record { classes = binds.classes; locals = binds.locals; names = new })
unfolding set_names
name_sound binds item row true is room last new made sound octets here =
    subst (λ names. IsSoundBinds (record binds { names = names })) (sym made)
    (bind_taken binds item (record binds { names = binds.names ++ row ∷ [] }) sound octets (name_here binds item here ∙ ap (option_map (set_names binds)) (with_name binds item row true is room last))).sound
name_sound binds item row false is room last new made sound octets here = subst (λ names. IsSoundBinds (record binds { names = names })) (sym made) sound

-- ---- Local networks

pub locals_there : (locals : List Prefix) (item : Item) → (length locals ≡ 0 → ⊥) → with_locals_item locals item ≡ None
unfolding with_locals_item
locals_there [] item some = absurd (some refl)
locals_there (p ∷ ps) item some = refl

pub with_locals : (locals : List Prefix) (item : Item) → length locals ≡ 0 → with_locals_item locals item ≡ locals_in item
unfolding with_locals_item
with_locals [] item none = refl
with_locals (p ∷ ps) item none = absurd (omega arith)

-- an item of the kind of local networks, before any name
pub locals_here : (binds : Binds) (item : Item) → IsTrue (item.kind == 4 && is_empty binds.names) → item.kind ≡ 4 → with_bind_item binds item ≡ option_map (set_locals binds) (with_locals_item binds.locals item)
unfolding with_bind_item
locals_here binds item here kind =
    ap (λ k. cond (k == 3 && is_empty binds.locals && is_empty binds.names) (option_map (set_classes binds) (with_class_item binds.classes item)) (cond (item.kind == 4 && is_empty binds.names) (option_map (set_locals binds) (with_locals_item binds.locals item)) (cond (item.kind == 5) (option_map (set_names binds) (with_name_item binds.names item)) None))) kind
    ∙ ap (λ t. cond t (option_map (set_locals binds) (with_locals_item binds.locals item)) (cond (item.kind == 5) (option_map (set_names binds) (with_name_item binds.names item)) None)) here

module _ (binds : Binds) (item : Item) (locals : List Prefix) (is : locals_in item ≡ Some locals) (none : length binds.locals ≡ 0) where
  pub locals_taken : IsTaken (option_map (set_locals binds) (with_locals_item binds.locals item)) binds (record { classes = binds.classes; locals = locals; names = binds.names }) true
  unfolding set_locals
  locals_taken = subst (λ o. IsTaken (option_map (set_locals binds) o) binds (record { classes = binds.classes; locals = locals; names = binds.names }) true) (sym (with_locals binds.locals item none ∙ is)) (refl, refl)

  pub locals_sound : IsSoundBinds binds → IsOctets item.body → IsTrue (item.kind == 4 && is_empty binds.names) → IsSoundBinds (record { classes = binds.classes; locals = locals; names = binds.names })
  unfolding set_locals
  locals_sound sound octets here =
      (bind_taken binds item (record binds { locals = locals }) sound octets
      (locals_here binds item here (eqb-true item.kind 4 (left_of (item.kind == 4) (is_empty binds.names) here)) ∙ ap (option_map (set_locals binds)) (with_locals binds.locals item none ∙ is))).sound
