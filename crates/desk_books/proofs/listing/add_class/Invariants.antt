use Rattle.std.proofs.Common.{◌≡◌, ◌++◌, drop}
use Rattle.std.specs.Prelude.{map}
use Rattle.table_model.specs.Bindings.{class_binding}
use Rattle.desk_books.proofs.listing.add_class.Given as goal

abbrev pub invariant-loop-addr : goal.invariant-loop-addr
invariant-loop-addr l = l.list ++ map (class_binding l.row) (drop l.addr-index l.addr-items) ≡ l.initial.list ++ map (class_binding l.row) l.addr-items
