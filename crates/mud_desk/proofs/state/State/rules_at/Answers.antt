use Rattle.std.proofs.Common.{◌≤◌, sym, subst, ap}
use Rattle.mud_desk.specs.RuleInputs.{AreRuleInputsOf, rule_inputs}
use Rattle.mud_desk.specs.DeskState.{DeskState, tables_of}
use Rattle.mud_desk.proofs.Sessions.{timely_since, rule_inputs_of}
use Rattle.mud_desk.proofs.state.State.rules_at.Goals as goal

pub invariant_of-result : goal.invariant_of-result
invariant_of-result c = record {
  since = timely_since c.self.inside.flows c.self.inside.moment c.args.now c.self.invariant (subst (λ (s : DeskState). s.moment ≤ c.args.now) (sym c.self.view_is) c.requires);
}

pub returns-clause-inputs : goal.returns-clause-inputs
unfolding tables_of
returns-clause-inputs c =
    let before : DeskState = record { books = c.self.inside.books; flows = c.self.inside.flows; moment = c.self.inside.moment } in
    subst (λ (s : DeskState). AreRuleInputsOf (tables_of s) (rule_inputs c.thing_book.result.now.things c.compiled.result.now c.locals.result.now c.self.inside.flows.history)) c.self.view_is
    (rule_inputs_of before c.thing_book.result.now.things c.compiled.result.now c.locals.result.now (ap (λ t. t.things) c.thing_book.ensures) c.compiled.ensures.value c.locals.ensures c.compiled.ensures.of)
