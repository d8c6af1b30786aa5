use Rattle.std.proofs.Common.{◌≡◌, ◌++◌, drop, map}
use Rattle.mud_world.specs.Items.{puts_of, set_put}
use Rattle.table_model.specs.ThingItems.{thing_item}
use Rattle.thing_book.proofs.items.puts_of.Given as goal

abbrev pub invariant-loop-thing : goal.invariant-loop-thing
invariant-loop-thing l = l.puts ++ map (set_put thing_item) (drop l.thing-index l.thing-items) ≡ puts_of 1 thing_item l.change
