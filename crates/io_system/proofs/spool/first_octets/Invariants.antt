use Rattle.std.proofs.Common.{◌≤◌, ◌-◌, length}
use Rattle.std.specs.Io.KnownBytes.{Consumes}
use Rattle.io_system.proofs.spool.first_octets.Given as goal

abbrev pub invariant-more : goal.invariant-more
invariant-more g l = record {
  within : length l.text ≤ 262145;
  octets : Consumes (g.F.Read.remaining l.initial.file) (g.F.Read.remaining l.file) l.text;
}

abbrev pub decreases-more : goal.decreases-more
decreases-more g l = 262145 - length l.text
