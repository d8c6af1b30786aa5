use Rattle.std.proofs.Common.{map, sym, ◌∙◌, ap, arith}
use Rattle.std.specs.Ordering.{is_ne}
use Rattle.std.specs.declared.cmp.Ordering.TheVariants.{Equal, Less}
use Rattle.base_rows.proofs.SearchLaws.{answer_at, ended_past, equal_past, not_ne}
use Rattle.std.proofs.lemmas.List.{length-map}
use Rattle.base_rows.proofs.sortable.search.past_equal.Goals as goal

pub returns-then-is_ne-clause-after : goal.returns-then-is_ne-clause-after
returns-then-is_ne-clause-after g c =
    let answer = g.P.Probe.against c.args.probe.now in
    let past = c.loop-past.past in
    ended_past (map answer c.args.rows.now) c.requires.falls c.args.at (omega (arith, length-map c.args.rows.now answer)) c.requires.meets past (omega (arith, c.loop-past.invariant.0)) (omega (arith, length-map c.args.rows.now answer))
    (ap is_ne (answer_at answer c.args.rows.now past c.read.result.now Equal c.compare.result c.read.ensures.row c.compare.ensures) ∙ sym c.is_ne.ensures ∙ c.if-is_ne.true)

pub loop-past-preserved : goal.loop-past-preserved
loop-past-preserved g c =
    let answer = g.P.Probe.against c.args.probe.now in
    let past = c.loop-past.past in (
      omega arith,
      omega arith,
      equal_past (map answer c.args.rows.now) c.args.at past c.loop-past.invariant.2
          (answer_at answer c.args.rows.now past c.read.result.now Less c.compare.result c.read.ensures.row c.compare.ensures ∙ not_ne c.compare.result (sym c.is_ne.ensures ∙ c.if-is_ne.false)),
      omega arith,
    )
