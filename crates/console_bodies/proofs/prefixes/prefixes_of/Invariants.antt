use Rattle.std.proofs.Common.{◌≡◌, map, drop}
use Rattle.serde_json.specs.View.{view}
use Rattle.mud_base.specs.Readings.{answer, over}
use Rattle.console_bodies.specs.Values as spec
use Rattle.console_bodies.proofs.prefixes.prefixes_of.Given as goal

abbrev pub invariant-values : goal.invariant-values
invariant-values l =
    answer (spec.prefixes_of (map view l.values)) ≡ answer (over spec.next_prefix l.prefixes (map view (drop l.value-index l.values)))
