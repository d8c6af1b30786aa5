use Rattle.std.proofs.Common.{◌≡◌, drop, option_map}
use Rattle.base_rows.specs.Sortable.{set_rows}
use Rattle.base_rows.specs.Addresses.{prefix_sort_key}
use Rattle.rule_export.specs.Networks.{joined_locals, rows_in}
use Rattle.rule_export.proofs.networks.put_locals.Given as goal

abbrev pub invariant-loop-p : goal.invariant-loop-p
invariant-loop-p l = set_rows prefix_sort_key (joined_locals l.family (drop l.p-index l.locals) (option_map rows_in l.rest)) l.networks.rows
    ≡ set_rows prefix_sort_key (joined_locals l.family l.locals (option_map rows_in l.rest)) l.fn.networks.rows
