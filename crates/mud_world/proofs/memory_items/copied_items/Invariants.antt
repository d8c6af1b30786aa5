use Rattle.std.proofs.Common.{◌≡◌, take}
use Rattle.mud_world.proofs.memory_items.copied_items.Given as goal

abbrev pub invariant-loop-item : goal.invariant-loop-item
invariant-loop-item l = l.list ≡ take l.item-index l.items
