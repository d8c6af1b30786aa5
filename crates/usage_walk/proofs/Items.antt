-- The elements of a JSON list, and those of the slice that the code has of them.
use Rattle.std.proofs.Common.{◌≡◌, List, [], ◌∷◌, Some, refl, ap, map}
use Rattle.serde_json.specs.Data.{Data}
use Rattle.serde_json.specs.Find.{as_array}
use Rattle.serde_json.specs.View.{view, items_of, items_view}
use Rattle.serde_json.specs.declared.value.Value.{Value}
use Rattle.usage_walk.specs.Kinds.{list_in}
use Rattle.usage_walk.proofs.Parts.{items_list}

pub items_list_of : (ds : List Data) → items_list (items_of ds) ≡ ds
items_list_of [] = refl
items_list_of (d ∷ ds) = ap (λ (more : List Data). d ∷ more) (items_list_of ds)

pub list_in_some : (d : Data) (values : List Value) → as_array d ≡ Some (items_view values) → list_in d ≡ Some (map view values)
list_in_some d values is = rw is (ap (λ (ds : List Data). Some ds) (items_list_of (map view values)))
