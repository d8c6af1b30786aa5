use Rattle.std.proofs.Common.{inr, ◌+◌, ◌∷◌, drop, sym, ap, ◌∙◌, arith, rules}
use Rattle.std.proofs.lemmas.List.{drop_more}
use Rattle.sqlite.specs.Held.{state}
use Rattle.sqlite.specs.State.{HasCleanDisk}
use Rattle.keep_sqlite.specs.Refused.{RefusesBatch}
use Rattle.keep_sqlite.proofs.Steps.{keeps_then, put_refused, reaches_next, start_from}
use Rattle.keep_sqlite.proofs.batch.put_each.Goals as goal

pub puts-preserved : goal.puts-preserved
puts-preserved g c = record {
  same = search rules;
  survives = search rules;
  kept = λ clean.
      let early : HasCleanDisk (state g.S.Store c.puts.tx.conn.now) = omega (arith, c.put_one.ensures.crash.clean) in
      keeps_then _ _ _ (c.puts.invariant.kept early) (c.put_one.ensures.kept clean);
  reaches = λ clean holds.
      let early : HasCleanDisk (state g.S.Store c.puts.tx.conn.now) = omega (arith, c.put_one.ensures.crash.clean) in
      inr (reaches_next (state g.S.Store c.args.tx.now.conn.now) (state g.S.Store c.puts.tx.conn.now) (state g.S.Store c.put_one.new.tx.conn.now) c.puts.put-index _ c.args.batch.now
      (start_from (state g.S.Store) c.puts.tx.conn.now c.args.tx.now.conn.now c.puts.put-index _ (c.puts.invariant.reaches early holds))
      (drop_more c.args.batch.now c.puts.put-index c.put-item.result c.puts-test.true ∙ ap (λ x. x ∷ drop (c.puts.put-index + 1) c.args.batch.now) (sym c.put-item.is)) holds (c.in_ok-put_one.ensures.ok clean));
}

pub returns-in_err-put_one-clause-refused : goal.returns-in_err-put_one-clause-refused
returns-in_err-put_one-clause-refused g c clean holds inside =
    let early : HasCleanDisk (state g.S.Store c.puts.tx.conn.now) = omega (arith, c.put_one.ensures.crash.clean) in
    let refused : RefusesBatch g.S.Store c.args.tx.now.conn.now c.args.batch.now c.in_err-put_one.field-0.0 = put_refused g.S.Store _ c.puts.tx.conn.now c.put_one.new.tx.conn.now c.puts.put-index _ c.args.batch.now _ (c.puts.invariant.reaches early holds)
    (drop_more c.args.batch.now c.puts.put-index c.put-item.result c.puts-test.true ∙ ap (λ x. x ∷ drop (c.puts.put-index + 1) c.args.batch.now) (sym c.put-item.is)) inside c.puts.invariant.survives.limit (c.in_err-put_one.ensures.refused clean) in
    search rules
