use Rattle.std.proofs.Common.{◌≡◌, ◌++◌, drop}
use Rattle.std.specs.Prelude.{flat_map}
use Rattle.table_model.specs.Bindings.{bindings_of_lease}
use Rattle.desk_books.proofs.listing.add_thing.Given as goal

abbrev pub invariant-loop-row : goal.invariant-loop-row
invariant-loop-row l = l.list ++ flat_map (bindings_of_lease l.thing) (drop l.row-index l.row-items) ≡ l.initial.list ++ flat_map (bindings_of_lease l.thing) l.row-items
