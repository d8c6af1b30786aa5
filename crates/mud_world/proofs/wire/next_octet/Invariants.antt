use Rattle.std.proofs.Common.{length, ◌-◌, ◌≡◌, drop}
use Rattle.mud_world.specs.Wire.{left_of, rest_of}
use Rattle.mud_world.proofs.wire.next_octet.Given as goal

abbrev pub invariant-pieces : goal.invariant-pieces
invariant-pieces l = record {
  left : left_of l.behind (drop l.at l.pieces) ≡ left_of l.initial.behind (drop l.initial.at l.pieces);
  rest : rest_of l.behind (drop l.at l.pieces) ≡ rest_of l.initial.behind (drop l.initial.at l.pieces);
}

abbrev pub decreases-pieces : goal.decreases-pieces
decreases-pieces l = length l.pieces - l.at
