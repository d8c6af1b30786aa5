-- The items of a keeper, and what a batch of puts makes of them.
use Rattle.std.specs.Prelude.{◌≡◌, ℕ, ◌<◌, Bool, true, false, not, ◌&&◌, IsTrue, nat_lt, nat_le, List, [], ◌∷◌, map, length, All, Option, Some, None, Result, Ok, Err}
use Rattle.std.specs.List.{AllByRecursion}
use Rattle.std.specs.Option.{option_map}
use Rattle.std.specs.Ordering.{is_eq}
use Rattle.base_rows.specs.Sortable.{sort_key_cmp, set_row, without_row, SortKeysAscend}
use Rattle.base_rows.specs.Changes.{RowChange, with_found}
use Rattle.mud_world.specs.declared.item.Item.{Item}
use Rattle.mud_world.specs.declared.item.Put.{Put}
use Rattle.mud_world.specs.declared.item.Put.TheVariants.{Set, Gone}
use Rattle.mud_world.specs.declared.fault.KeepFault.{KeepFault}
use Rattle.mud_world.specs.declared.fault.KeepFault.TheVariants.{Failed, Memory}

-- The sort key of an item: its kind, and then the octets of its key.
abbrev pub sort_key_of : Item → List ℕ
sort_key_of item = item.kind ∷ item.key

-- the items after one put: with the item, instead of the one of its sort key, or with no item of the sort key
abbrev pub put_one : List Item → Put → List Item
put_one items (Set item) = set_row sort_key_of item items
put_one items (Gone kind key) = without_row sort_key_of (kind ∷ key) items

-- the items after the puts, in order
abbrev pub put_all : List Item → List Put → List Item
put_all items [] = items
put_all items (p ∷ ps) = put_all (put_one items p) ps

-- the sort key that a put is about
abbrev pub sort_key_of_put : Put → List ℕ
sort_key_of_put (Set item) = sort_key_of item
sort_key_of_put (Gone kind key) = kind ∷ key

-- no put of the list is about the sort key
abbrev pub is_apart : List ℕ → List Put → Bool
is_apart sort_key [] = true
is_apart sort_key (p ∷ ps) = not (is_eq (sort_key_cmp sort_key (sort_key_of_put p))) && is_apart sort_key ps

-- no two puts are about one sort key
abbrev pub are_apart : List Put → Bool
are_apart [] = true
are_apart (p ∷ ps) = is_apart (sort_key_of_put p) ps && are_apart ps

-- A batch has 1 to 4 puts with distinct sort keys.
abbrev pub is_batch : List Put → Bool
is_batch puts = nat_lt 0 (length puts) && nat_le (length puts) 4 && are_apart puts

-- The items are in the order of their sort keys, each sort key once.
abbrev pub IsOrdered : List Item → Type 0
IsOrdered items = SortKeysAscend sort_key_of items

-- The puts lead from the items before to the items after, each of them changes something, and no two are about one sort key. So
-- they are what differs, in some order. A change of a book has at most two puts, and none of the stamp's kind: the desk adds
-- that one.
pub record IsDifference (before after : List Item) (puts : List Put) : Type 0 where
  pub reaches : put_all before puts ≡ after
  pub needed : All (λ put. ¬ (put_one before put ≡ before)) puts
  pub apart : IsTrue (are_apart puts)

-- the item that a put leaves at its sort key
abbrev pub item_after : Put → Option Item
item_after (Set item) = Some item
item_after (Gone kind key) = None

-- ---- Kinds

abbrev pub kind_of_put : Put → ℕ
kind_of_put (Set item) = item.kind
kind_of_put (Gone kind key) = kind

-- each put is of the kind
abbrev pub ArePutsOf : ℕ → List Put → Type 0
ArePutsOf kind puts = AllByRecursion (λ put. kind_of_put put ≡ kind) puts

-- each item is of a kind before this one
abbrev pub AreOfLowerKinds : ℕ → List Item → Type 0
AreOfLowerKinds kind items = AllByRecursion (λ item. item.kind < kind) items

-- each item is of a kind behind this one
abbrev pub AreOfHigherKinds : ℕ → List Item → Type 0
AreOfHigherKinds kind items = AllByRecursion (λ item. kind < item.kind) items

-- ---- Rows that are kept as items

-- each row's sort key is the key of its item, which is of the kind
abbrev pub AreItemsOf : {R : Type 0} → (R → List ℕ) → ℕ → (R → Item) → Type 0
AreItemsOf {R = R} sort_key kind item = (row : R) → sort_key_of (item row) ≡ kind ∷ sort_key row

unfoldable pub set_put : {R : Type 0} → (R → Item) → R → Put
set_put item row = Set (item row)

unfoldable pub gone_put : ℕ → List ℕ → Put
gone_put kind p = Gone kind p

-- the puts of a change of rows: the item of the row that goes, and then those of the rows that are put in
unfoldable pub puts_of : {R : Type 0} → ℕ → (R → Item) → RowChange R → List Put
puts_of kind item change = with_found (option_map (gone_put kind) change.gone) (map (set_put item) change.sets)

-- whether the keeper itself failed
abbrev pub has_failed : {A : Type 0} → Result A KeepFault → Bool
has_failed (Ok a) = false
has_failed (Err Failed) = true
has_failed (Err Memory) = false
