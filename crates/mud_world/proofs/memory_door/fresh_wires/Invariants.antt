use Rattle.std.proofs.Common.{◌≡◌, replicate}
use Rattle.mud_world.specs.Wire.{fresh}
use Rattle.mud_world.proofs.memory_door.fresh_wires.Given as goal

abbrev pub invariant-loop-i : goal.invariant-loop-i
invariant-loop-i l = l.wires.items ≡ replicate l.i (fresh l.room)
