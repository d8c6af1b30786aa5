use Rattle.std.proofs.Common.{◌≡◌, map, drop}
use Rattle.serde_json.specs.View.{view}
use Rattle.mud_base.specs.Readings.{answer, over}
use Rattle.mud_file.specs.Entries as spec
use Rattle.mud_file.specs.Lists.{list_head}
use Rattle.mud_file.proofs.entries.entries_in.Given as goal

abbrev pub invariant-values : goal.invariant-values
invariant-values l =
    answer (spec.entries_in (list_head l.list) (map view l.values)) ≡ answer (over (spec.next_entry (list_head l.list)) l.entries (map view (drop l.value-index l.values)))
