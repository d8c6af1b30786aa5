use Rattle.std.proofs.Common.{◌≡◌, ◌++◌, drop}
use Rattle.std.specs.Prelude.{flat_map}
use Rattle.table_model.specs.ItemFields.{expiring}
use Rattle.thing_book.proofs.items.write_expirings.Given as goal

abbrev pub invariant-loop-row : goal.invariant-loop-row
invariant-loop-row l = l.writer ++ flat_map expiring (drop l.row-index l.leases) ≡ l.initial.writer ++ flat_map expiring l.leases
