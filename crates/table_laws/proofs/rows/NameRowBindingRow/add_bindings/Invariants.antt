use Rattle.std.proofs.Common.{◌≡◌, ◌++◌, map, drop}
use Rattle.table_model.specs.Bindings.{name_binding}
use Rattle.table_laws.specs.Lent.{lent_binding}
use Rattle.table_laws.proofs.rows.NameRowBindingRow.add_bindings.Given as goal

abbrev pub invariant-loop-row : goal.invariant-loop-row
invariant-loop-row l =
    map lent_binding l.list ++ map (name_binding l.self) (drop l.row-index l.row-items) ≡ map lent_binding l.initial.list ++ map (name_binding l.self) l.row-items
