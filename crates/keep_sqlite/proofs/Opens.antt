-- What the tests of an open show of the rows.
use Rattle.std.proofs.Common.{◌≡◌, ℕ, ◌<◌, ℤ, pos, Bool, true, false, cond, ◌&&◌, List, [], ◌∷◌, map, Option, Some, None, Ok, Err, Result, IfOk, IfErr, refl, sym, ap, subst, ◌∙◌}
use Rattle.std.proofs.lemmas.Bool.{false≢true}
use Rattle.std.proofs.lemmas.Option.{none-some}
use Rattle.std.proofs.lemmas.List.Elements.{All-from_recursion, recursion_from_All}
use Rattle.std.proofs.lemmas.List.Sorted.{All-permutation, IsPermutation-sym}
use Rattle.std.specs.List.{AllByRecursion}
use Rattle.std.specs.List.Sorted.{IsPermutation}
use Rattle.sqlite.specs.declared.types.Value.TheVariants.{Int, Blob}
use Rattle.sqlite_value.specs.Order.{Row, column}
use Rattle.sqlite.specs.Edit.{id_in}
use Rattle.sqlite_schema.specs.declared.schema.Constraint.TheVariants.{Datatype}
use Rattle.sqlite_schema.specs.Rules.{are_typed, has_computed, Keeps}
use Rattle.sqlite.specs.Effect.{Database, IsDatabase}
use Rattle.sqlite.specs.State.{State}
use Rattle.base_rows.specs.Sortable.{same_sort_key, row_at}
use Rattle.std.specs.declared.cmp.Ordering.TheVariants.{Less}
use Rattle.base_rows.proofs.SortableLaws.{same_sort_key_itself, same_sort_key_exact, same_sort_key-cmp}
use Rattle.base_rows.proofs.RowLaws.{same_rows}
use Rattle.base_rows.proofs.Lists.{all-map}
use Rattle.mud_world.specs.declared.item.Item.{Item}
use Rattle.mud_world.specs.Items.{sort_key_of, IsOrdered}
use Rattle.keep_sqlite.specs.Table.{item_table, item_schema}
use Rattle.keep_sqlite.specs.Rows.{item_in, items_in, items_of, IsItemRow, AreDistinct, HoldsItems}
use Rattle.keep_sqlite.specs.Selections.{item_shown, number_shown, ShowsItem, ShowsId, AreUnequal, shown_row, shown_id, HaveIds, HaveItems}
use Rattle.keep_sqlite.proofs.Lookups.{sort_key_in, found, item_at, items_ascend}
use Rattle.keep_sqlite.proofs.Unread.{distinct_shown, unequal_in}

-- ---- what holds of what is shown holds of the rows

all_unmap : {X Y : Type 0} (P : Y → Type 0) (f : X → Y) (xs : List X) → AllByRecursion P (map f xs) → AllByRecursion (λ x. P (f x)) xs
all_unmap P f [] all = tt
all_unmap P f (x ∷ xs) all = (all.0, all_unmap P f xs all.1)

across : {X : Type 0} (P : X → Type 0) (xs ys : List X) → IsPermutation xs ys → AllByRecursion P ys → AllByRecursion P xs
across P xs ys same all = recursion_from_All P xs (All-permutation P ys xs (IsPermutation-sym xs ys same) (All-from_recursion P ys all))

pub rows_have : (P : Row → Type 0) (f : Row → Row) (rows answer : List Row) → IsPermutation (map f rows) answer → AllByRecursion P answer → AllByRecursion (λ r. P (f r)) rows
rows_have P f rows answer same all = all_unmap P f rows (across P (map f rows) answer same all)

-- ---- the rows are those of items

-- a row with these values, and no more columns than the table, is that of an item
item_row : (row : Row) (id : ℤ) (item : Item) → item.kind < 256 → (are_typed None 0 item_table.columns (Rattle.std.specs.Prelude.drop 1 row) && has_computed item_table row) ≡ true
    → column row 0 ≡ Int id → column row 1 ≡ Int (pos item.kind) → column row 2 ≡ Blob item.key → column row 3 ≡ Blob item.body → IsItemRow row
item_row [] id item low typed a b c d = absurd cc
item_row (v ∷ []) id item low typed a b c d = absurd cc
item_row (v ∷ w ∷ []) id item low typed a b c d = absurd cc
item_row (v ∷ w ∷ x ∷ []) id item low typed a b c d = absurd cc
item_row (v ∷ w ∷ x ∷ y ∷ []) id item low typed a b c d = (id, item, low, (λ i. a i ∷ b i ∷ c i ∷ d i ∷ []))
item_row (v ∷ w ∷ x ∷ y ∷ z ∷ more) id item low typed a b c d =
    let one = subst (λ u. (are_typed None 0 item_table.columns (u ∷ x ∷ y ∷ z ∷ more) && true) ≡ true) b typed in
    let two = subst (λ u. (are_typed None 0 item_table.columns (Int (pos item.kind) ∷ u ∷ y ∷ z ∷ more) && true) ≡ true) c one in
    let three = subst (λ u. (are_typed None 0 item_table.columns (Int (pos item.kind) ∷ Blob item.key ∷ u ∷ z ∷ more) && true) ≡ true) d two in
    absurd (false≢true three)

pub item_rows : (db : Database) → IsDatabase db → db.schema ≡ item_schema → AllByRecursion (λ r. ShowsId (shown_id r)) (db.trees 0) → AllByRecursion (λ r. ShowsItem (shown_row r)) (db.trees 0) → AllByRecursion IsItemRow (db.trees 0)
item_rows db sound schema ids items = each (db.trees 0) (subst (λ s. Keeps Datatype s db.trees) schema (sound.obeys.rules Datatype)).0 ids items
  where
    each : (rows : List Row) → AllByRecursion (λ r. (are_typed None 0 item_table.columns (Rattle.std.specs.Prelude.drop 1 r) && has_computed item_table r) ≡ true) rows → AllByRecursion (λ r. ShowsId (shown_id r)) rows → AllByRecursion (λ r. ShowsItem (shown_row r)) rows → AllByRecursion IsItemRow rows
    each [] typed ids items = tt
    each (r ∷ rs) typed ids items = (item_row r (id_in (column r 0)) (item_shown (shown_row r)) items.0.low typed.0 ids.0.id items.0.kind items.0.key items.0.body, each rs typed.1 ids.1 items.1)

-- ---- the rowids are distinct

pub distinct_rows : (rows answer : List Row) → IsPermutation (map shown_id rows) answer → AreUnequal (map number_shown answer) → AreDistinct rows
distinct_rows rows answer same rise = distinct_shown rows (unequal_in answer (map shown_id rows) (IsPermutation-sym (map shown_id rows) answer same) rise)

-- ---- the items that are shown are those of the rows

first_at : (items : List Item) → IsOrdered items → AllByRecursion (λ item. row_at sort_key_of (sort_key_of item) items ≡ Some item) items
first_at [] up = tt
first_at (x ∷ xs) up = (ap (λ b. cond b (Some x) (row_at sort_key_of (sort_key_of x) xs)) (same_sort_key_itself (sort_key_of x)), later xs xs up.0 (first_at xs up.1))
  where
    later : (ys all : List Item) → Rattle.base_rows.specs.Sortable.SortKeysAbove sort_key_of (sort_key_of x) ys → AllByRecursion (λ item. row_at sort_key_of (sort_key_of item) all ≡ Some item) ys → AllByRecursion (λ item. row_at sort_key_of (sort_key_of item) (x ∷ all) ≡ Some item) ys
    later [] all above each = tt
    later (y ∷ ys) all above each = (ap (λ b. cond b (Some x) (row_at sort_key_of (sort_key_of y) all)) (same_sort_key-cmp (sort_key_of x) (sort_key_of y) Less above.0) ∙ each.0, later ys all above.1 each.1)

-- a sort key that some row has is found
found_some : (rows : List Row) → AllByRecursion (λ r. found (sort_key_in r) rows ≡ None → ⊥) rows
found_some [] = tt
found_some (r ∷ rs) = ((λ none. none-some (item_in r) (sym none ∙ ap (λ b. cond b (Some (item_in r)) (found (sort_key_in r) rs)) (same_sort_key_itself (sort_key_in r)))), more rs (found_some rs))
  where
    more : (xs : List Row) → AllByRecursion (λ x. found (sort_key_in x) rs ≡ None → ⊥) xs → AllByRecursion (λ x. found (sort_key_in x) (r ∷ rs) ≡ None → ⊥) xs
    more [] each = tt
    more (x ∷ xs) each = ((λ none. by (same_sort_key (sort_key_in r) (sort_key_in x)) none), more xs each.1)
      where
        by : (b : Bool) → cond b (Some (item_in r)) (found (sort_key_in x) rs) ≡ None → ⊥
        by true none = none-some (item_in r) (sym none)
        by false none = each.0 none

same_at : (p : List ℕ) (rows : List Row) (items : List Item) → AllByRecursion (λ r. row_at sort_key_of (sort_key_in r) items ≡ Some (item_in r)) rows → AllByRecursion (λ item. found (sort_key_of item) rows ≡ None → ⊥) items
    → row_at sort_key_of p items ≡ found p rows
same_at p rows items each back = by (found p rows) refl
  where
    hit : (xs : List Row) (x : Item) → AllByRecursion (λ r. row_at sort_key_of (sort_key_in r) items ≡ Some (item_in r)) xs → found p xs ≡ Some x → row_at sort_key_of p items ≡ Some x
    hit [] x all e = absurd (none-some x e)
    hit (r ∷ rs) x all e = at (hit rs x all.1) (same_sort_key (sort_key_in r) p) refl e
      where
        at : (found p rs ≡ Some x → row_at sort_key_of p items ≡ Some x) → (b : Bool) → same_sort_key (sort_key_in r) p ≡ b → cond b (Some (item_in r)) (found p rs) ≡ Some x → row_at sort_key_of p items ≡ Some x
        at rest true same e = ap (λ q. row_at sort_key_of q items) (sym (same_sort_key_exact (sort_key_in r) p same)) ∙ all.0 ∙ e
        at rest false other e = rest e

    miss : (xs : List Item) → AllByRecursion (λ item. found (sort_key_of item) rows ≡ None → ⊥) xs → found p rows ≡ None → row_at sort_key_of p xs ≡ None
    miss [] all none = refl
    miss (x ∷ xs) all none = at (miss xs all.1 none) (same_sort_key (sort_key_of x) p) refl
      where
        at : row_at sort_key_of p xs ≡ None → (b : Bool) → same_sort_key (sort_key_of x) p ≡ b → cond b (Some x) (row_at sort_key_of p xs) ≡ None
        at rest true same = absurd (all.0 (ap (λ q. found q rows) (same_sort_key_exact (sort_key_of x) p same) ∙ none))
        at rest false other = rest

    by : (o : Option Item) → found p rows ≡ o → row_at sort_key_of p items ≡ found p rows
    by (Some x) e = hit rows x each e ∙ sym e
    by None e = miss items back e ∙ sym e

pub shown_items : (rows answer : List Row) → IsPermutation (map shown_row rows) answer → IsOrdered (map item_shown answer) → map item_shown answer ≡ items_in rows
shown_items rows answer same up =
    let items = map item_shown answer in
    let each = all_unmap (λ s. row_at sort_key_of (sort_key_of (item_shown s)) items ≡ Some (item_shown s)) shown_row rows
    (across (λ s. row_at sort_key_of (sort_key_of (item_shown s)) items ≡ Some (item_shown s)) (map shown_row rows) answer same (all_unmap (λ item. row_at sort_key_of (sort_key_of item) items ≡ Some item) item_shown answer (first_at items up))) in
    let back = all-map (λ item. found (sort_key_of item) rows ≡ None → ⊥) item_shown answer
    (across (λ s. found (sort_key_of (item_shown s)) rows ≡ None → ⊥) answer (map shown_row rows) (IsPermutation-sym (map shown_row rows) answer same) (all-map (λ s. found (sort_key_of (item_shown s)) rows ≡ None → ⊥) shown_row rows (found_some rows))) in
    same_rows sort_key_of items (items_in rows) up (items_ascend rows) (λ p. same_at p rows items each back ∙ sym (item_at rows p))

-- what an open has shown of a database
pub holds_from : (first mid new : State) (items : List Item) → IsDatabase first.now → first.now.schema ≡ item_schema → mid.now ≡ first.now → new.now ≡ mid.now → HaveIds (first.now.trees 0) → HaveItems (mid.now.trees 0) → items ≡ items_of mid.now
    → HoldsItems new.now × (items ≡ items_of new.now)
holds_from first mid new items sound schema same next ids shown is =
    let rows = subst (λ (d : Database). HaveItems (d.trees 0)) same shown in
    let holds : HoldsItems first.now = record { sound = sound; schema = schema; rows = item_rows first.now sound schema ids.0 rows; distinct = ids.1 } in
    (subst HoldsItems (sym (next ∙ same)) holds, is ∙ ap items_of (sym next))

pub if_ok_map : {A E : Type 0} {P Q : A → Type 0} (r : Result A E) → IfOk r P → ((a : A) → P a → Q a) → IfOk r Q
if_ok_map (Ok a) p f = f a p
if_ok_map (Err e) p f = tt

pub if_err_map : {A E : Type 0} {P Q : E → Type 0} (r : Result A E) → IfErr r P → ((e : E) → P e → Q e) → IfErr r Q
if_err_map (Ok a) p f = tt
if_err_map (Err e) p f = f e p
