use Rattle.std.proofs.Common.{◌≡◌, map, drop}
use Rattle.serde_json.specs.View.{view}
use Rattle.mud_base.specs.Readings.{answer, over}
use Rattle.usage_walk.specs.Named as spec
use Rattle.usage_walk.specs.Elements.{elements_view}
use Rattle.usage_walk.proofs.named.elements_of.Given as goal

abbrev pub invariant-list : goal.invariant-list
invariant-list l =
    answer (spec.elements_of l.path (map view l.list)) ≡ answer (over (spec.element_at l.path) (elements_view l.elements) (map view (drop l.value-index l.list)))
