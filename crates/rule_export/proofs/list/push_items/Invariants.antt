use Rattle.std.proofs.Common.{◌≡◌, ◌+◌, ◌++◌, drop, map, Some}
use Rattle.rule_export.specs.Listed.{items_from}
use Rattle.rule_export.proofs.list.push_items.Given as goal

abbrev pub invariant-loop-network : goal.invariant-loop-network
invariant-loop-network l = record {
  number : l.number ≡ l.network-index;
  items : l.list ++ items_from l.rule (l.network-index + 1) (map Some (drop l.network-index l.networks)) ≡ l.fn.list ++ items_from l.rule 1 (map Some l.networks);
}
