use Rattle.std.proofs.Common.{map, ◌-◌, ◌+◌, ◌≡◌, ℕ, sym, ◌∙◌, ap, subst, arith}
use Rattle.std.specs.Ordering.{is_ne}
use Rattle.std.specs.declared.cmp.Ordering.TheVariants.{Equal, Less}
use Rattle.base_rows.specs.Search.{AllGreaterBefore}
use Rattle.base_rows.proofs.SearchLaws.{answer_at, ended_below, equal_below, not_ne}
use Rattle.std.proofs.lemmas.List.{length-map}
use Rattle.base_rows.proofs.sortable.search.first_equal.Goals as goal

pub returns-then-is_ne-clause-before : goal.returns-then-is_ne-clause-before
returns-then-is_ne-clause-before g c =
    let answer = g.P.Probe.against c.args.probe.now in
    let below : ℕ = c.loop-first.first - 1 in
    let is : below + 1 ≡ c.loop-first.first = omega arith in
    let within = c.loop-first.invariant in
    subst (AllGreaterBefore (map answer c.args.rows.now)) is
    (ended_below (map answer c.args.rows.now) c.requires.falls c.args.at (omega (arith, length-map c.args.rows.now answer)) c.requires.meets below (omega arith)
    (ap is_ne (answer_at answer c.args.rows.now below c.read.result.now Equal c.compare.result c.read.ensures.row c.compare.ensures) ∙ sym c.is_ne.ensures ∙ c.if-is_ne.true))

pub loop-first-preserved : goal.loop-first-preserved
loop-first-preserved g c =
    let answer = g.P.Probe.against c.args.probe.now in
    let below : ℕ = c.loop-first.first - 1 in
    let within = c.loop-first.invariant in (
      omega arith,
      omega arith,
      equal_below (map answer c.args.rows.now) below c.loop-first.first c.args.at c.loop-first.invariant.2 (omega arith)
          (answer_at answer c.args.rows.now below c.read.result.now Less c.compare.result c.read.ensures.row c.compare.ensures ∙ not_ne c.compare.result (sym c.is_ne.ensures ∙ c.if-is_ne.false)),
      omega arith,
    )
