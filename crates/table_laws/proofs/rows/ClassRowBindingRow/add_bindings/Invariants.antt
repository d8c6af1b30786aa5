use Rattle.std.proofs.Common.{◌≡◌, ◌++◌, map, drop}
use Rattle.table_model.specs.Bindings.{class_binding}
use Rattle.table_laws.specs.Lent.{lent_binding}
use Rattle.table_laws.proofs.rows.ClassRowBindingRow.add_bindings.Given as goal

abbrev pub invariant-loop-addr : goal.invariant-loop-addr
invariant-loop-addr l =
    map lent_binding l.list ++ map (class_binding l.self) (drop l.addr-index l.addr-items) ≡ map lent_binding l.initial.list ++ map (class_binding l.self) l.addr-items
