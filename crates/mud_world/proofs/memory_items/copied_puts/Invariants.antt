use Rattle.std.proofs.Common.{◌≡◌, take}
use Rattle.mud_world.proofs.memory_items.copied_puts.Given as goal

abbrev pub invariant-loop-original : goal.invariant-loop-original
invariant-loop-original l = l.list.items ≡ take l.original-index l.puts
