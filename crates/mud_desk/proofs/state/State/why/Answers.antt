use Rattle.std.proofs.Common.{◌≡◌, ◌≤◌, sym, subst, ap, ◌∙◌}
use Rattle.frame_view.specs.declared.views.Frame.{Frame}
use Rattle.frame_view.specs.Frame.{frame_of}
use Rattle.acl_compile.specs.Plans.{policy_held}
use Rattle.desk_model.specs.Sessions.{verdict_in}
use Rattle.desk_model.specs.Verdicts.{verdict_at}
use Rattle.mud_desk.specs.Findings.{AreFindingsOn}
use Rattle.mud_desk.specs.RuleInputs.{AreRuleInputsOf, rule_inputs, ruling_on}
use Rattle.mud_desk.specs.DeskState.{DeskState, tables_of, session_of}
use Rattle.mud_desk.proofs.Found.{found_of}
use Rattle.mud_desk.proofs.Rulings.{rules_things}
use Rattle.mud_desk.proofs.Sessions.{max_first, verdict_here}
use Rattle.mud_desk.proofs.Verdicts.{verdict_read}
use Rattle.mud_desk.proofs.state.State.why.Goals as goal

pub rules_at-rules-requires : goal.rules_at-rules-requires
rules_at-rules-requires g c = subst (λ (s : DeskState). s.moment ≤ c.later-moment.result) c.self.view_is (max_first c.self.inside.moment c.args.stamp c.later-moment.result c.later-moment.ensures)

pub findings_with-requires : goal.findings_with-requires
findings_with-requires g c =
    let r = c.rules_at-rules.result in
    rules_things (ruling_on (rule_inputs r.things.now.things r.compiled.now r.locals.now r.flows.now.history) r.now) r.things.now.things c.view-view.result c.judge-verdict.result c.judge-verdict.ensures.verdict

pub returns-clause-verdict : goal.returns-clause-verdict
unfolding tables_of
returns-clause-verdict g c =
    let n = c.later-moment.result in
    let r = c.rules_at-rules.result in
    let k = rule_inputs r.things.now.things r.compiled.now r.locals.now r.flows.now.history in
    let before : DeskState = record { books = c.self.inside.books; flows = c.self.inside.flows; moment = c.self.inside.moment } in
    let back : c.args.self.now ≡ before = sym c.self.view_is in
    let verdict : c.judge-verdict.result ≡ verdict_at (tables_of before) c.self.inside.flows.history n c.args.frame.now = c.judge-verdict.ensures.verdict
    ∙ verdict_read (tables_of before) k (subst (λ (s : DeskState). AreRuleInputsOf (tables_of s) k) back c.rules_at-rules.ensures.inputs)
    c.self.inside.flows.history (c.rules_at-rules.ensures.history ∙ ap (λ (s : DeskState). s.flows.history) back) r.now n c.rules_at-rules.ensures.now c.rules_at-rules.ensures.within c.view-view.result c.args.frame.now c.view-view.ensures in
    subst (λ (s : DeskState). c.findings_with.result.verdict ≡ verdict_in (session_of s) c.args.stamp c.args.frame.now) c.self.view_is
    (c.findings_with.ensures.verdict ∙ verdict ∙ sym (verdict_here before c.args.stamp n c.args.frame.now c.later-moment.ensures))

pub returns-clause-found : goal.returns-clause-found
returns-clause-found g c =
    let r = c.rules_at-rules.result in
    found_of (tables_of c.args.self.now) (rule_inputs r.things.now.things r.compiled.now r.locals.now r.flows.now.history) c.rules_at-rules.ensures.inputs
    (frame_of c.args.frame.now) c.findings_with.result
    (subst (λ (f : Frame). AreFindingsOn (policy_held r.compiled.now.slots) r.things.now.things f c.findings_with.result) c.view-view.ensures c.findings_with.ensures.found)
