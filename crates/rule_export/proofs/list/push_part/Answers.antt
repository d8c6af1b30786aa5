use Rattle.std.proofs.Common.{◌+◌, ◌≤◌, length, ◌∙◌, arith}
use Rattle.acl_rows.specs.ByAddress.{grouped}
use Rattle.rule_export.specs.Resolved.{rule_in, part_items}
use Rattle.rule_export.proofs.HostLaws.{next_entry, no_entry}
use Rattle.rule_export.proofs.list.push_part.Goals as goal

pub entries-preserved : goal.entries-preserved
entries-preserved c = record {
  within = omega (arith, c.entries-test.true, c.count.ensures);
  items =
      next_entry c.args.w.now (rule_in c.args.defaults) c.args.part.now.rows (grouped c.args.groups.now.entries) c.args.part.now.entries c.entries.n (c.entries.n + 1) c.entry.result.now c.rule_in.result c.entries.list c.push_entry.new.list (omega arith)
      c.entry.ensures c.rule_in.ensures c.requires c.in_ok-push_entry.ensures
      ∙ c.entries.invariant.items;
}

pub returns : goal.returns
unfolding part_items
returns c =
    let past : length c.args.part.now.entries ≤ c.entries.n = omega (arith, c.entries-test.false, c.count.ensures) in
    no_entry c.args.w.now (rule_in c.args.defaults) c.args.part.now.rows c.args.part.now.entries c.entries.n c.entries.list past ∙ c.entries.invariant.items
