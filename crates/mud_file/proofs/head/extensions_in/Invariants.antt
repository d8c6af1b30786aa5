use Rattle.std.proofs.Common.{◌≡◌, map, drop}
use Rattle.serde_json.specs.View.{view}
use Rattle.mud_base.specs.Readings.{answer, over}
use Rattle.mud_file.specs.Head as spec
use Rattle.mud_file.proofs.head.extensions_in.Given as goal

abbrev pub invariant-values : goal.invariant-values
invariant-values l =
    answer (spec.extensions_in l.path (map view l.values)) ≡ answer (over (spec.extension_at l.path) l.extensions (map view (drop l.value-index l.values)))
