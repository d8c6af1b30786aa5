-- JSON values that are written out.
use Rattle.std.specs.Prelude.{ℕ, List, [], ◌∷◌}
use Rattle.serde_json.specs.Data.{unsigned, Data, number, array, object, Items, no_items, item, Members, no_members, put}

abbrev pub num : ℕ → Data
num n = number (unsigned n)

abbrev pub items : List Data → Items
items [] = no_items
items (d ∷ ds) = item d (items ds)

abbrev pub list : List Data → Data
list ds = array (items ds)

-- the members of an object, in any order of their names
abbrev pub members : List (List ℕ × Data) → Members
members [] = no_members
members (m ∷ ms) = put m.0 m.1 (members ms)

abbrev pub obj : List (List ℕ × Data) → Data
obj ms = object (members ms)
