use Rattle.std.proofs.Common.{◌≡◌, ℕ, ◌+◌, Bool, cond, List, Some, drop, get_or, ap, ◌∙◌, arith}
use Rattle.std.specs.Prelude.{find}
use Rattle.std.proofs.lemmas.List.{drop_all}
use Rattle.packet_judge.specs.ByRows.{passes_at}
use Rattle.packet_judge.specs.RuleSteps.{tested, wide_tested}
use Rattle.packet_judge.proofs.StepSums.{next_tested, next_found}
use Rattle.packet_judge.proofs.question.Question.first_wide.Goals as goal

pub returns-then-passes-clause-counted : goal.returns-then-passes-clause-counted
unfolding wide_tested
returns-then-passes-clause-counted g c =
    let test : ℕ → Bool = passes_at c.args.self.now c.args.part.now in
    let wide : List ℕ = c.wide-wide.result.now in
    let here = next_tested test wide c.loop-n.n-index c.passes.result (omega arith) c.passes.ensures ∙ ap (λ (b : Bool). cond b 1 (tested test (drop (c.loop-n.n-index + 1) wide) + 1)) c.if-passes.true in
    omega (arith, here, c.loop-n.invariant.counted, ap (tested test) c.wide-wide.ensures)

pub loop-n-preserved : goal.loop-n-preserved
loop-n-preserved g c =
    let test : ℕ → Bool = passes_at c.args.self.now c.args.part.now in
    let wide : List ℕ = c.wide-wide.result.now in
    let here = next_tested test wide c.loop-n.n-index c.passes.result (omega arith) c.passes.ensures ∙ ap (λ (b : Bool). cond b 1 (tested test (drop (c.loop-n.n-index + 1) wide) + 1)) c.if-passes.false in
    record {
      found =
          c.loop-n.invariant.found
          ∙ next_found test wide c.loop-n.n-index c.passes.result (omega arith) c.passes.ensures
          ∙ ap (λ (b : Bool). cond b (Some (get_or wide c.loop-n.n-index 0)) (find test (drop (c.loop-n.n-index + 1) wide))) c.if-passes.false;
      counted = omega (arith, here, c.loop-n.invariant.counted);
      most = omega arith;
    }

pub returns-clause-counted : goal.returns-clause-counted
unfolding wide_tested tested
returns-clause-counted g c =
    let test : ℕ → Bool = passes_at c.args.self.now c.args.part.now in
    let none = ap (tested test) (drop_all c.loop-n.n-index c.wide-wide.result.now (omega arith)) in
    omega (arith, none, c.loop-n.invariant.counted, ap (tested test) c.wide-wide.ensures)
