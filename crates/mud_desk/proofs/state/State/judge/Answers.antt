use Rattle.std.proofs.Common.{◌≡◌, ◌≤◌, ◌<◌, ◌+◌, ◌^◌, ℕ, List, length, IsSome, Result, Ok, Err, refl, sym, subst, ap, ◌∙◌, arith}
use Rattle.std.proofs.lemmas.Result.{err_from_is_err_and}
use Rattle.table_model.specs.declared.thing.Thing.{Thing}
use Rattle.acl_compile.specs.Compiled.{CompiledState}
use Rattle.mud_base.specs.declared.memory.Memory as want
use Rattle.packet_judge.specs.declared.verdict.Verdict.{Verdict}
use Rattle.packet_judge.specs.Verdicts.{history_after, noted_fields, steps_on}
use Rattle.frame_view.specs.declared.views.Frame.{Frame}
use Rattle.frame_view.specs.Frame.{frame_of}
use Rattle.desk_model.specs.Verdicts.{verdict_at}
use Rattle.mud_desk.specs.RuleInputs.{AreRuleInputsOf, rule_inputs, rows_read, ruling_steps}
use Rattle.mud_desk.specs.DeskState.{DeskState, tables_of}
use Rattle.mud_desk.proofs.Sessions.{timely_since, timely_at, timely_same, max_first, IsJudged, judged_so, judged_not, steps_alike}
use Rattle.mud_desk.proofs.Verdicts.{verdict_read}
use Rattle.mud_desk.proofs.state.State.judge.Goals as goal

pub rules_at-requires : goal.rules_at-requires
rules_at-requires g c = subst (λ (s : DeskState). s.moment ≤ c.later-now.result) c.self.view_is (max_first c.self.inside.moment c.args.stamp c.later-now.result c.later-now.ensures)

pub note-requires : goal.note-requires
note-requires g c = record { since = timely_since c.self.inside.flows c.self.inside.moment c.later-now.result c.self.invariant (max_first c.self.inside.moment c.args.stamp c.later-now.result c.later-now.ensures) }

pub invariant_of-self : goal.invariant_of-self
invariant_of-self g c = timely_same c.self.inside.flows c.note.new.flows c.self.inside.moment c.in_err-note.ensures.err c.self.invariant

pub invariant_of-self-2 : goal.invariant_of-self-2
invariant_of-self-2 g c = timely_at c.note.new.flows c.later-now.result (c.in_ok-note.ensures.since c.later-now.result (omega arith))

pub returns-clause-judged : goal.returns-clause-judged
unfolding tables_of
returns-clause-judged g c = λ octets read.
    let n = c.later-now.result in
    let r = c.rules_at.result in
    let k = rule_inputs r.things.now.things r.compiled.now r.locals.now r.flows.now.history in
    let before : DeskState = record { books = c.self.inside.books; flows = c.self.inside.flows; moment = c.self.inside.moment } in
    let back : c.args.self.now ≡ before = sym c.self.view_is in
    let after : DeskState = record { books = c.self.inside.books; flows = c.note.new.flows; moment = n } in
    let verdict : c.judge-verdict.result ≡ verdict_at (tables_of before) c.self.inside.flows.history n octets = c.judge-verdict.ensures.verdict
    ∙ verdict_read (tables_of before) k (subst (λ (s : DeskState). AreRuleInputsOf (tables_of s) k) back c.rules_at.ensures.inputs)
    c.self.inside.flows.history (c.rules_at.ensures.history ∙ ap (λ (s : DeskState). s.flows.history) back) r.now n c.rules_at.ensures.now c.rules_at.ensures.within c.args.frame.now octets read in
    subst (λ (s : DeskState). IsJudged s c.args.stamp octets (Ok c.judge-verdict.result) after) c.self.view_is
    (judged_so before after c.args.stamp n octets c.later-now.ensures c.judge-verdict.result verdict
    (c.in_ok-note.ensures.ok ∙ ap (λ (f : Frame). history_after c.self.inside.flows.history f c.judge-verdict.result n) read) refl refl)

pub returns-in_err-note-clause-judged : goal.returns-in_err-note-clause-judged
unfolding tables_of
returns-in_err-note-clause-judged g c = λ octets read.
    let n = c.later-now.result in
    let r = c.rules_at.result in
    let k = rule_inputs r.things.now.things r.compiled.now r.locals.now r.flows.now.history in
    let before : DeskState = record { books = c.self.inside.books; flows = c.self.inside.flows; moment = c.self.inside.moment } in
    let back : c.args.self.now ≡ before = sym c.self.view_is in
    let after : DeskState = record { books = c.self.inside.books; flows = c.note.new.flows; moment = c.self.inside.moment } in
    let verdict : c.judge-verdict.result ≡ verdict_at (tables_of before) c.self.inside.flows.history n octets = c.judge-verdict.ensures.verdict
    ∙ verdict_read (tables_of before) k (subst (λ (s : DeskState). AreRuleInputsOf (tables_of s) k) back c.rules_at.ensures.inputs)
    c.self.inside.flows.history (c.rules_at.ensures.history ∙ ap (λ (s : DeskState). s.flows.history) back) r.now n c.rules_at.ensures.now c.rules_at.ensures.within c.args.frame.now octets read in
    let p = err_from_is_err_and c.from_residual.result c.from_residual.ensures.1 in
    subst (λ (v : Result Verdict want.Memory). IsJudged c.args.self.now c.args.stamp octets v after) (sym p.1)
    (subst (λ (s : DeskState). IsJudged s c.args.stamp octets (Err p.0) after) c.self.view_is
    (judged_not before after c.args.stamp n octets c.later-now.ensures p.0
    (subst (λ (v : Verdict). IsSome (noted_fields (frame_of octets) v)) verdict
    (subst (λ (f : Frame). IsSome (noted_fields f c.judge-verdict.result)) read c.in_err-note.ensures.wanted))
    c.in_err-note.ensures.err refl refl))

abbrev Least : ℕ → ℕ → ℕ → Type 0
Least a b k = a + k ≤ b

abbrev Most : ℕ → ℕ → ℕ → Type 0
Most a b k = b ≤ a + k

module _ (state : DeskState) (things : List Thing) (compiled : CompiledState) (is_things : things ≡ (tables_of state).tables.things) (is_compiled : compiled ≡ state.books.compiled)
    (f : Frame) (a b : ℕ) where
  least_so : a + steps_on (rows_read compiled) things f ≤ b → a + steps_on (rows_read state.books.compiled) (tables_of state).tables.things f ≤ b
  least_so taken = subst (Least a b) (steps_alike state things compiled is_things is_compiled rows_read f) taken

  most_so : ((d : ℕ) → length compiled.rows < 2 ^ d → b ≤ a + steps_on (ruling_steps compiled d) things f)
      → (d : ℕ) → length state.books.compiled.rows < 2 ^ d → b ≤ a + steps_on (ruling_steps state.books.compiled d) (tables_of state).tables.things f
  most_so taken d few =
      subst (Most a b) (steps_alike state things compiled is_things is_compiled (λ k. ruling_steps k d) f) (taken d (subst (λ (k : CompiledState). length k.rows < 2 ^ d) (sym is_compiled) few))

pub returns-clause-least : goal.returns-clause-least
returns-clause-least g c =
    least_so c.args.self.now c.rules_at.result.things.now.things c.rules_at.result.compiled.now c.rules_at.ensures.inputs.things c.rules_at.ensures.compiled
    c.args.frame.now c.args.steps.now c.judge-verdict.new.steps c.judge-verdict.ensures.least

pub returns-clause-most : goal.returns-clause-most
returns-clause-most g c =
    most_so c.args.self.now c.rules_at.result.things.now.things c.rules_at.result.compiled.now c.rules_at.ensures.inputs.things c.rules_at.ensures.compiled
    c.args.frame.now c.args.steps.now c.judge-verdict.new.steps c.judge-verdict.ensures.most

pub returns-in_err-note-clause-least : goal.returns-in_err-note-clause-least
returns-in_err-note-clause-least g c =
    least_so c.args.self.now c.rules_at.result.things.now.things c.rules_at.result.compiled.now c.rules_at.ensures.inputs.things c.rules_at.ensures.compiled
    c.args.frame.now c.args.steps.now c.judge-verdict.new.steps c.judge-verdict.ensures.least

pub returns-in_err-note-clause-most : goal.returns-in_err-note-clause-most
returns-in_err-note-clause-most g c =
    most_so c.args.self.now c.rules_at.result.things.now.things c.rules_at.result.compiled.now c.rules_at.ensures.inputs.things c.rules_at.ensures.compiled
    c.args.frame.now c.args.steps.now c.judge-verdict.new.steps c.judge-verdict.ensures.most
