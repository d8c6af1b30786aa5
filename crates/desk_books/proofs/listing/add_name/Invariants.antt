use Rattle.std.proofs.Common.{◌≡◌, ◌++◌, drop}
use Rattle.std.specs.Prelude.{map}
use Rattle.table_model.specs.Bindings.{name_binding}
use Rattle.desk_books.proofs.listing.add_name.Given as goal

abbrev pub invariant-loop-address : goal.invariant-loop-address
invariant-loop-address l = l.list ++ map (name_binding l.row) (drop l.address-index l.address-items) ≡ l.initial.list ++ map (name_binding l.row) l.address-items
