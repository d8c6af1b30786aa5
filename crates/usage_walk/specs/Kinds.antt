-- Values of one JSON kind, and members of an object (RFC 8259).
use Rattle.std.specs.Prelude.{ℕ, Bool, false, not, List, [], ◌∷◌, Option, Some, None, is_some, unwrap_or, option_map, option_and_then, if◌then◌else◌}
use Rattle.std.specs.Option.{option_map_or}
use Rattle.serde_json.specs.Data.{Data, null, Items, no_items, item}
use Rattle.serde_json.specs.Find.{get, as_null, as_bool, as_number, as_u64, as_str, as_array, as_object}
use Rattle.usage_walk.specs.declared.fault.Rule.TheVariants.{Missing, WrongKind}
use Rattle.usage_walk.specs.declared.member.Member.{Member}
use Rattle.usage_walk.specs.Members.{name_of}
use Rattle.mud_base.specs.Readings.{done, ◌>>=◌, wanted, refused_where, where_there}
use Rattle.usage_walk.specs.Reading.{Reading, under, fault_at}

abbrev pub list_in : Data → Option (List Data)
list_in d = option_map items_list (as_array d)
  where
    items_list : Items → List Data
    items_list no_items = []
    items_list (item d ds) = d ∷ items_list ds

abbrev pub is_null : Data → Bool
is_null d = is_some (as_null d)

abbrev pub is_only_null : List Data → Bool
is_only_null [] = false
is_only_null (d ∷ []) = is_null d
is_only_null (d ∷ e ∷ ds) = false

-- ---- Values

unfoldable pub text_of : List ℕ → Data → Reading (List ℕ)
text_of path d = wanted [] (fault_at WrongKind path) (as_str d)

unfoldable pub number_of : List ℕ → Data → Reading ℕ
number_of path d = wanted 0 (fault_at WrongKind path) (option_and_then as_u64 (as_number d))

unfoldable pub object_of : List ℕ → Data → Reading Data
object_of path d = wanted null (fault_at WrongKind path) (object_in d)
  where
    object_in : Data → Option Data
    object_in d = if is_some (as_object d) then Some d else None

-- an empty leaf is `[null]` (RFC 7951, 6.9) or `null`
unfoldable pub leaf_of : List ℕ → Data → Reading (Unit {0})
leaf_of path d = refused_where (not (option_map_or is_only_null (list_in d) (is_null d))) (fault_at WrongKind path)

-- ---- Members of an object. The path is the object's.

-- a member that has to be there
unfoldable pub member_at : List ℕ → Member → Data → Reading Data
member_at path member d = wanted null (fault_at Missing (under path member)) (get (name_of member) d)

unfoldable pub text_at : List ℕ → Member → Data → Reading (List ℕ)
text_at path member d = do
  value ← member_at path member d
  text_of (under path member) value

unfoldable pub number_at : List ℕ → Member → Data → Reading ℕ
number_at path member d = do
  value ← member_at path member d
  number_of (under path member) value

unfoldable pub truth_at : List ℕ → Member → Data → Reading Bool
truth_at path member d = do
  value ← member_at path member d
  truth_of (under path member) value
  where
    truth_of : List ℕ → Data → Reading Bool
    truth_of path d = wanted false (fault_at WrongKind path) (as_bool d)

unfoldable pub object_at : List ℕ → Member → Data → Reading Data
object_at path member d = do
  value ← member_at path member d
  object_of (under path member) value

-- ---- Members that may be absent, of an object that may be absent itself

unfoldable pub inside : Member → Option Data → Option Data
inside member parent = option_and_then (get (name_of member)) parent

unfoldable pub text_where_there : List ℕ → Member → Option Data → Reading (Option (List ℕ))
text_where_there path member parent = where_there (text_of (under path member)) (inside member parent)

unfoldable pub number_where_there : List ℕ → Member → Option Data → Reading (Option ℕ)
number_where_there path member parent = where_there (number_of (under path member)) (inside member parent)

unfoldable pub object_where_there : List ℕ → Member → Option Data → Reading (Option Data)
object_where_there path member parent = where_there (object_of (under path member)) (inside member parent)

-- an absent list has no elements
unfoldable pub list_where_there : List ℕ → Member → Option Data → Reading (List Data)
list_where_there path member parent = do
  found ← where_there (list_of (under path member)) (inside member parent)
  done (unwrap_or found [])
  where
    list_of : List ℕ → Data → Reading (List Data)
    list_of path d = wanted [] (fault_at WrongKind path) (list_in d)

-- whether an empty leaf is there
unfoldable pub leaf_where_there : List ℕ → Member → Option Data → Reading Bool
leaf_where_there path member parent = do
  found ← where_there (leaf_of (under path member)) (inside member parent)
  done (is_some found)
