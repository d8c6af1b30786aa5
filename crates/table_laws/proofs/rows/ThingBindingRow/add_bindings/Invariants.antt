use Rattle.std.proofs.Common.{◌≡◌, ◌++◌, map, drop}
use Rattle.std.specs.Prelude.{flat_map}
use Rattle.table_model.specs.Bindings.{bindings_of_lease}
use Rattle.table_laws.specs.Lent.{lent_binding}
use Rattle.table_laws.proofs.rows.ThingBindingRow.add_bindings.Given as goal

abbrev pub invariant-loop-row : goal.invariant-loop-row
invariant-loop-row l =
    map lent_binding l.list ++ flat_map (bindings_of_lease l.self) (drop l.row-index l.row-items) ≡ map lent_binding l.initial.list ++ flat_map (bindings_of_lease l.self) l.row-items
