use Rattle.std.proofs.Common.{◌≡◌, drop}
use Rattle.std.specs.List.{filter_map}
use Rattle.base_rows.specs.Sortable.{set_rows}
use Rattle.base_rows.specs.Addresses.{prefix_sort_key}
use Rattle.rule_export.specs.Networks.{common_part}
use Rattle.rule_export.proofs.networks.put_common.Given as goal

abbrev pub invariant-loop-q : goal.invariant-loop-q
invariant-loop-q l = set_rows prefix_sort_key (filter_map (common_part l.p) (drop l.q-index l.rest)) l.networks.rows ≡ set_rows prefix_sort_key (filter_map (common_part l.p) l.rest) l.fn.networks.rows
