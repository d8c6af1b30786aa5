use Rattle.std.proofs.Common.{◌≡◌, ◌≤◌, drop, length, option_map}
use Rattle.rule_export.specs.Networks.{joint, rows_in}
use Rattle.rule_export.proofs.networks.near_networks.Given as goal

abbrev pub invariant-selectors : goal.invariant-selectors
invariant-selectors l = record {
  within : l.index ≤ length l.selectors;
  found : option_map rows_in l.found ≡ joint l.family l.locals (drop l.index l.selectors);
}

abbrev pub decreases-selectors : goal.decreases-selectors
decreases-selectors l = l.index
