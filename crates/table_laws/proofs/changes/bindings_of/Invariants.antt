use Rattle.std.proofs.Common.{◌≡◌, ◌++◌, map, drop}
use Rattle.std.specs.Prelude.{flat_map}
use Rattle.table_laws.specs.Lent.{lent_binding}
use Rattle.table_laws.proofs.changes.bindings_of.Given as goal

abbrev pub invariant-loop-row : goal.invariant-loop-row
invariant-loop-row g l = map lent_binding l.list ++ flat_map g.R.BindingRow.bindings (drop l.row-index l.rows) ≡ flat_map g.R.BindingRow.bindings l.rows
