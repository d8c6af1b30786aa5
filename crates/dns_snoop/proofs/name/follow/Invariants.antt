use Rattle.std.proofs.Common.{◌≡◌, ◌≤◌, length}
use Rattle.dns_snoop.specs.Names.{chain_behind}
use Rattle.dns_snoop.specs.Steps.{chain_answer}
use Rattle.dns_snoop.proofs.name.follow.Given as goal

abbrev pub invariant-runs : goal.invariant-runs
invariant-runs l = record {
  same : chain_answer l.text (chain_behind l.run l.message l.run l.last) ≡ chain_answer l.initial.text (chain_behind l.fn.start l.message l.fn.start l.fn.first);
  start : l.run ≤ length l.message;
  short : length l.text ≤ 254;
}

abbrev pub decreases-runs : goal.decreases-runs
decreases-runs l = l.run
