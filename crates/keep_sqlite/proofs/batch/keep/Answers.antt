use Rattle.std.proofs.Common.{◌≡◌, true, [], inr, rules, IsTrue, ap, subst, ◌∙◌}
use Rattle.sqlite.specs.Held.{state}
use Rattle.sqlite.specs.State.{HasCleanDisk, Survives}
use Rattle.keep_sqlite.specs.Rows.{HoldsItems}
use Rattle.keep_sqlite.specs.Batches.{Reaches}
use Rattle.keep_sqlite.proofs.Opens.{if_err_map}
use Rattle.keep_sqlite.proofs.Crashes.{survives_batch, IsBatchLeft}
use Rattle.keep_sqlite.proofs.Steps.{commit_refused}
use Rattle.keep_sqlite.proofs.batch.keep.Goals as goal

pub returns-clause-crash : goal.returns-clause-crash
returns-clause-crash g c =
    let left : Survives (state g.S.Store c.args.connection.now) (state g.S.Store c.commit.new.self.0) (IsBatchLeft g.S.Store c.args.connection.now c.args.batch.now) =
    survives_batch g.S.Store c.args.connection.now c.transaction-tx.result.conn.now c.put_each.new.tx.conn.now c.commit.new.self.0 c.args.batch.now c.transaction-tx.ensures.begun c.put_each.ensures.crash
    c.in_ok-put_each.ensures.ok c.requires.holds c.commit.ensures.survives in
    search rules

pub returns-clause-refused : goal.returns-clause-refused
returns-clause-refused g c clean =
    let early : HasCleanDisk (state g.S.Store c.put_each.new.tx.conn.now) = search rules in
    let first : HasCleanDisk (state g.S.Store c.args.connection.now) = search rules in
    let holds : IsTrue (state g.S.Store c.transaction-tx.result.conn.now).is_open → HoldsItems (state g.S.Store c.transaction-tx.result.conn.now).now = search rules in
    let reaches : Reaches (state g.S.Store (record c.args.connection.now { in_transaction = true })) (state g.S.Store c.put_each.new.tx.conn.now) [] c.args.batch.now =
    subst (λ connection. Reaches (state g.S.Store connection) (state g.S.Store c.put_each.new.tx.conn.now) [] c.args.batch.now) c.transaction-tx.ensures.begun (c.in_ok-put_each.ensures.ok early holds) in
    let limit : (state g.S.Store c.put_each.new.tx.conn.now).step_limit ≡ (state g.S.Store c.args.connection.now).step_limit =
    c.in_ok-put_each.ensures.crash.limit ∙ ap (λ connection. (state g.S.Store connection).step_limit) c.transaction-tx.ensures.begun in
    if_err_map c.commit.result (c.commit.ensures.err (search rules))
    (λ error failed. inr (commit_refused g.S.Store (record c.args.connection.now { in_transaction = true }) c.put_each.new.tx.conn.now c.commit.new.self.0 c.args.batch.now error reaches limit failed))
