use Rattle.std.proofs.Common.{List, ap, sym, ◌∙◌}
use Rattle.base_rows.specs.Sortable.{RowsAndRoom, set_rows}
use Rattle.base_rows.specs.Addresses.{prefix_sort_key}
use Rattle.acl_rows.specs.declared.row.Row.{Row}
use Rattle.acl_rows.proofs.GroupLaws.{together_grouped}
use Rattle.rule_export.specs.Resolved.{wanted_networks}
use Rattle.rule_export.proofs.HostLaws.{rows_together, next_group}
use Rattle.rule_export.proofs.list.put_groups.Goals as goal

pub loop-group-init : goal.loop-group-init
loop-group-init c =
    ap (λ (gs : List (RowsAndRoom Row)). set_rows prefix_sort_key (wanted_networks c.args.w.now c.args.n c.args.entry.now (rows_together gs)) c.args.networks.now.rows)
    (c.into_iter-group-iterator.ensures.into_iter_gives ∙ c.values-group-items.ensures.rest)
    ∙ ap (λ (rs : List Row). set_rows prefix_sort_key (wanted_networks c.args.w.now c.args.n c.args.entry.now rs) c.args.networks.now.rows) (together_grouped c.args.groups.now.entries)

pub loop-group-preserved : goal.loop-group-preserved
loop-group-preserved c =
    next_group c.args.w.now c.args.n c.args.entry.now c.in-Some.group.now.rows (rows_together c.next.new.self) c.loop-group.networks.rows c.put_rows.new.networks.rows
    (c.in_ok-put_rows.ensures ∙ ap (λ (rs : List Row). set_rows prefix_sort_key (wanted_networks c.args.w.now c.args.n c.args.entry.now rs) c.loop-group.networks.rows) c.rows.ensures.rows)
    ∙ sym (ap (λ (gs : List (RowsAndRoom Row)). set_rows prefix_sort_key (wanted_networks c.args.w.now c.args.n c.args.entry.now (rows_together gs)) c.loop-group.networks.rows) c.in-Some.ensures.steps)
    ∙ c.loop-group.invariant
