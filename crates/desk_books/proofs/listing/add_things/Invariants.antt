use Rattle.std.proofs.Common.{◌≡◌, ◌++◌, drop}
use Rattle.std.specs.Prelude.{flat_map}
use Rattle.table_model.specs.Bindings.{thing_bindings}
use Rattle.desk_books.proofs.listing.add_things.Given as goal

abbrev pub invariant-loop-thing : goal.invariant-loop-thing
invariant-loop-thing l = l.list ++ flat_map thing_bindings (drop l.thing-index l.things) ≡ l.initial.list ++ flat_map thing_bindings l.things
