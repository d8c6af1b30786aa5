-- Lists of objects with names (RFC 8520, 3.3; RFC 8519, 4.1): each name stands once in a list.
use Rattle.std.specs.Prelude.{ℕ, Bool, List, [], ◌∷◌, ◌++◌, length, find, Option, bytes_eq}
use Rattle.std.specs.List.{list_any}
use Rattle.serde_json.specs.Data.{Data}
use Rattle.usage_walk.specs.declared.fault.Rule.TheVariants.{RepeatedName}
use Rattle.usage_walk.specs.declared.member.Member.TheVariants.{Name}
use Rattle.mud_base.specs.Readings.{done, ◌>>=◌, refused_where, over}
use Rattle.usage_walk.specs.Reading.{Reading, under, at_index, fault_at}
use Rattle.usage_walk.specs.Kinds.{object_of, text_at}

-- an object with a name, and its index in its list, counted from 0
pub record Element : Type 0 where
  pub index : ℕ
  pub name : List ℕ
  pub value : Data

-- whether one of them has the name
unfoldable pub is_named : List ℕ → List Element → Bool
is_named name elements = list_any (λ e. bytes_eq e.name name) elements

-- the first of them that has the name
unfoldable pub element_named : List ℕ → List Element → Option Element
element_named name elements = find (λ e. bytes_eq e.name name) elements

unfoldable pub element : List Element → List ℕ → Data → Element
element before name d = record { index = length before; name = name; value = d }

-- the object behind those before it, where its name is new
unfoldable pub with_named : List ℕ → List Element → List ℕ → Data → Reading (List Element)
with_named path before name d = do
  _ ← refused_where (is_named name before) (fault_at RepeatedName (under path Name))
  done (before ++ element before name d ∷ [])

-- the next element of a list, which has this path, behind those before it
unfoldable pub next_element : List ℕ → List Element → Data → Reading (List Element)
next_element path before d = do
  found ← object_of path d
  name ← text_at path Name found
  with_named path before name found

unfoldable pub element_at : List ℕ → List Element → Data → Reading (List Element)
element_at path before d = next_element (at_index path (length before)) before d

unfoldable pub elements_of : List ℕ → List Data → Reading (List Element)
elements_of path ds = over (element_at path) [] ds
