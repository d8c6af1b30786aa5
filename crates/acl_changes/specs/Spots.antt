-- Where the entries of a policy stand that have a key.
use Rattle.std.specs.Prelude.{ℕ, Bool, false, List, [], ◌∷◌, ◌++◌, flat_map, Option, Some, None, if◌then◌else◌}
use Rattle.std.specs.List.{list_any}
use Rattle.std.specs.Option.{option_map_or}
use Rattle.base_rows.specs.Sortable.{same_sort_key, row_at}
use Rattle.mud_base.specs.declared.packet.Direction.{Direction}
use Rattle.mud_base.specs.declared.packet.Direction.TheVariants.{From, To}
use Rattle.acl_model.specs.declared.entry.Selector.{Selector}
use Rattle.acl_model.specs.declared.entry.Entry.{Entry}
use Rattle.acl_model.specs.declared.entry.Policy.{Policy}
use Rattle.acl_model.specs.FirstMatch.{entries_of}
use Rattle.acl_model.specs.Keys.{key_of}
use Rattle.acl_model.specs.SortKeys.{text_sort_key, member_sort_key}
use Rattle.acl_rows.specs.Rows.{numbered}
use Rattle.acl_changes.specs.declared.group.EntrySpot.{EntrySpot}
use Rattle.acl_changes.specs.declared.group.KeyEntries.{KeyEntries}

-- ---- What is asked

-- the selector has a key, and the key has this sort key
unfoldable pub is_keyed : List ℕ → List ℕ → Selector → Bool
is_keyed url p selector = option_map_or (λ own. same_sort_key (member_sort_key own) p) (key_of url selector) false

abbrev pub spot : Direction → ℕ → EntrySpot
spot side n = record { side = side; number = n }

unfoldable pub spot_if : Bool → EntrySpot → List EntrySpot
spot_if b s = if b then s ∷ [] else []

-- an entry with its number, where one of its selectors has the key
unfoldable pub entry_spots : List ℕ → List ℕ → Direction → ℕ × Entry → List EntrySpot
entry_spots url p side e = spot_if (list_any (is_keyed url p) e.1.selectors) (spot side e.0)

unfoldable pub side_spots : List ℕ → List ℕ → Direction → List Entry → List EntrySpot
side_spots url p side entries = flat_map (entry_spots url p side) (numbered 1 entries)

-- the entries of a policy, in the file of this URL, that have the key of a sort key: each once, and in their order
unfoldable pub policy_spots : List ℕ → Policy → List ℕ → List EntrySpot
policy_spots url policy p = side_spots url p From (entries_of From policy) ++ side_spots url p To (entries_of To policy)

-- ---- What is kept

unfoldable pub group_sort_key : KeyEntries → List ℕ
group_sort_key g = text_sort_key g.kind g.text

unfoldable pub spots_of : Option KeyEntries → List EntrySpot
spots_of None = []
spots_of (Some g) = g.spots

-- the entries that are kept of the key with this sort key
unfoldable pub spots_in : List KeyEntries → List ℕ → List EntrySpot
spots_in groups p = spots_of (row_at group_sort_key p groups)
