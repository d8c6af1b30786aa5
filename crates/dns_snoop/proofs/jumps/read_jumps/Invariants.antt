use Rattle.std.proofs.Common.{◌≡◌, length}
use Rattle.dns_snoop.specs.Steps.{AreJumps}
use Rattle.dns_snoop.proofs.jumps.read_jumps.Given as goal

abbrev pub invariant-offsets : goal.invariant-offsets
invariant-offsets l = record {
  count : length l.jumps ≡ l.offset;
  all : AreJumps l.message l.jumps;
}
