use Rattle.std.proofs.Common.{map, arith}
use Rattle.std.specs.declared.cmp.Ordering.TheVariants.{Less, Equal, Greater}
use Rattle.base_rows.proofs.SearchLaws.{answer_at, narrowed_below, narrowed_above}
use Rattle.base_rows.proofs.sortable.search.meet.Goals as goal

pub loop-low-preserved-in-Less : goal.loop-low-preserved-in-Less
loop-low-preserved-in-Less g c =
    let answer = g.P.Probe.against c.args.probe.now in
    (omega arith, narrowed_below (map answer c.args.rows.now) c.requires _ _ c.loop-low.low c.loop-low.high _ c.loop-low.invariant.1 (omega arith) (omega arith) (omega arith) (answer_at answer c.args.rows.now _ _ Equal Less c.read.ensures.row c.in-Less.ensures) (omega arith), λ none. omega arith)

pub returns-in-Equal-clause-ok : goal.returns-in-Equal-clause-ok
returns-in-Equal-clause-ok g c =
    let answer = g.P.Probe.against c.args.probe.now in
    let narrowed = c.loop-low.invariant.1 in
    record {
      start_le = omega arith;
      at_lt = omega arith;
      end_le = narrowed.high_le;
      before = narrowed.before;
      meets = answer_at answer c.args.rows.now _ _ Less Equal c.read.ensures.row c.in-Equal.ensures;
      after = narrowed.after;
    }

pub loop-low-preserved : goal.loop-low-preserved
loop-low-preserved g c =
    let answer = g.P.Probe.against c.args.probe.now in
    (omega arith, narrowed_above (map answer c.args.rows.now) c.requires _ _ c.loop-low.low c.loop-low.high _ c.loop-low.invariant.1 (omega arith) (omega arith) (omega arith) (answer_at answer c.args.rows.now _ _ Equal Greater c.read.ensures.row c.in-Greater.ensures) (omega arith), λ none. omega arith)
