use Rattle.std.proofs.Common.{◌≡◌, ◌⊎◌, IsTrue, drop}
use Rattle.sqlite.specs.Held.{state}
use Rattle.sqlite.specs.State.{HasCleanDisk, KeepsCommit, Survives}
use Rattle.keep_sqlite.specs.Rows.{HoldsItems}
use Rattle.keep_sqlite.specs.Batches.{Reaches}
use Rattle.keep_sqlite.proofs.batch.put_each.Given as goal

abbrev pub invariant-puts : goal.invariant-puts
invariant-puts g l = record {
  same : l.tx.conn.ghost_name ≡ l.fn.tx.conn.ghost_name;
  survives : Survives (state g.S.Store l.fn.tx.conn.now) (state g.S.Store l.tx.conn.now) (λ _. ⊥);
  kept : HasCleanDisk (state g.S.Store l.tx.conn.now) → KeepsCommit (state g.S.Store l.fn.tx.conn.now) (state g.S.Store l.tx.conn.now);
  reaches : HasCleanDisk (state g.S.Store l.tx.conn.now) → (IsTrue (state g.S.Store l.fn.tx.conn.now).is_open → HoldsItems (state g.S.Store l.fn.tx.conn.now).now)
      → ((l.put-index ≡ 0) × (l.tx.conn.now ≡ l.fn.tx.conn.now)) ⊎ Reaches (state g.S.Store l.fn.tx.conn.now) (state g.S.Store l.tx.conn.now) (drop l.put-index l.batch) l.batch;
}
