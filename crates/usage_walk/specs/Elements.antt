-- Elements of a list as the code keeps them.
use Rattle.std.specs.Prelude.{◌≡◌, ℕ, Bool, List, map, find, bytes_eq}
use Rattle.std.specs.BTreeMap.{BTreeMap, get_by}
use Rattle.std.specs.Cmp.Lexicographic.{slice_cmp}
use Rattle.std.specs.Ordering.{nat_cmp}
use Rattle.serde_json.specs.View.{view}
use Rattle.usage_walk.specs.declared.named.Element.{Element}
use Rattle.usage_walk.specs.Named as named
use denote.Ref.{Bor}

abbrev pub element_view : Element → named.Element
element_view e = record { index = e.index; name = e.name.now; value = view e.value.now }

abbrev pub elements_view : List Element → List named.Element
elements_view elements = map element_view elements

abbrev pub has_name : List ℕ → Element → Bool
has_name name e = bytes_eq e.name.now name

-- each name finds the first element that has it
abbrev pub IsIndexOf : BTreeMap (Bor (List ℕ)) Element → List Element → Type 0
IsIndexOf by_name elements = (name : List ℕ) → get_by (λ k. slice_cmp nat_cmp name k.now) by_name ≡ find (has_name name) elements
