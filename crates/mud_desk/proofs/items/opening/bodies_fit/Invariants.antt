use Rattle.std.proofs.Common.{take}
use Rattle.std.specs.List.{AllByRecursion}
use Rattle.mud_desk.specs.Items.Opening.{HasOctets}
use Rattle.mud_desk.proofs.items.opening.bodies_fit.Given as goal

abbrev pub invariant-loop-item : goal.invariant-loop-item
invariant-loop-item l = AllByRecursion HasOctets (take l.item-index l.items)
