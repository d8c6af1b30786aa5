use Rattle.std.proofs.Common.{◌≡◌, ◌++◌, drop}
use Rattle.std.specs.Prelude.{flat_map}
use Rattle.table_model.specs.Bindings.{class_bindings}
use Rattle.desk_books.proofs.listing.add_classes.Given as goal

abbrev pub invariant-loop-row : goal.invariant-loop-row
invariant-loop-row l = l.list ++ flat_map class_bindings (drop l.row-index l.classes) ≡ l.initial.list ++ flat_map class_bindings l.classes
