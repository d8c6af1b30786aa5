use Rattle.std.proofs.Common.{◌+◌, ◌≤◌, List, ◌++◌, sym, ap, subst, ◌∙◌, arith}
use Rattle.acl_model.specs.declared.binding.Binding.{Binding}
use Rattle.acl_model.specs.Changes.{replaced}
use Rattle.acl_model.specs.Policies.{url_policy}
use Rattle.acl_rows.specs.Rows.{default_held}
use Rattle.acl_changes.specs.Patch.{IsPatch}
use Rattle.acl_changes.specs.Touched.{touches}
use Rattle.acl_changes.specs.Bindings.{AreEditsOf}
use Rattle.acl_changes.specs.Change.{ChangeState, change_state, after}
use Rattle.acl_changes.specs.Steps.{least_steps}
use Rattle.acl_changes.proofs.Planned.{most_moved}
use Rattle.acl_compile.proofs.PlanLaws.{member_most, member_plan}
use Rattle.acl_compile.proofs.plan.plan_change.Goals as goal

pub new-change-requires-clause-made : goal.new-change-requires-clause-made
new-change-requires-clause-made g c = c.in_ok-binding_edits.ensures.ok.made

pub plan-requires-clause-default_held : goal.plan-requires-clause-default_held
unfolding default_held
plan-requires-clause-default_held g c = ap (url_policy _) (sym c.requires.default) ∙ sym c.of_defaults-holding.ensures.held

pub returns-in_err-binding_edits-clause-most : goal.returns-in_err-binding_edits-clause-most
returns-in_err-binding_edits-clause-most g c =
    member_most c.args.slots.now c.args.bindings.now.rows c.args.rows.now.rows c.args.gone.now c.args.come.now c.args.steps.now c.edits_of.new.steps c.edits_of.new.steps c.edits_of.ensures.most
    (λ b k u few rows fit. omega arith)

pub returns-in_err-row_edits-clause-most : goal.returns-in_err-row_edits-clause-most
returns-in_err-row_edits-clause-most g c =
    member_most c.args.slots.now c.args.bindings.now.rows c.args.rows.now.rows c.args.gone.now c.args.come.now c.args.steps.now c.edits_of.new.steps c.plan.new.steps c.edits_of.ensures.most
    (most_moved c.new-change.result (change_state c.args.slots.now c.args.bindings.now.rows c.args.rows.now.rows c.args.gone.now c.args.come.now c.in_ok-binding_edits.binding_edits.rows) c.new-change.ensures c.edits_of.new.steps c.plan.new.steps c.plan.ensures.most)

pub returns-in_err-make_room-clause-most : goal.returns-in_err-make_room-clause-most
returns-in_err-make_room-clause-most g c =
    member_most c.args.slots.now c.args.bindings.now.rows c.args.rows.now.rows c.args.gone.now c.args.come.now c.args.steps.now c.edits_of.new.steps c.plan.new.steps c.edits_of.ensures.most
    (most_moved c.new-change.result (change_state c.args.slots.now c.args.bindings.now.rows c.args.rows.now.rows c.args.gone.now c.args.come.now c.in_ok-binding_edits.binding_edits.rows) c.new-change.ensures c.edits_of.new.steps c.plan.new.steps c.plan.ensures.most)

pub returns-in_err-make_room-2-clause-most : goal.returns-in_err-make_room-2-clause-most
returns-in_err-make_room-2-clause-most g c =
    member_most c.args.slots.now c.args.bindings.now.rows c.args.rows.now.rows c.args.gone.now c.args.come.now c.args.steps.now c.edits_of.new.steps c.plan.new.steps c.edits_of.ensures.most
    (most_moved c.new-change.result (change_state c.args.slots.now c.args.bindings.now.rows c.args.rows.now.rows c.args.gone.now c.args.come.now c.in_ok-binding_edits.binding_edits.rows) c.new-change.ensures c.edits_of.new.steps c.plan.new.steps c.plan.ensures.most)

pub returns-clause-most : goal.returns-clause-most
returns-clause-most g c =
    member_most c.args.slots.now c.args.bindings.now.rows c.args.rows.now.rows c.args.gone.now c.args.come.now c.args.steps.now c.edits_of.new.steps c.plan.new.steps c.edits_of.ensures.most
    (most_moved c.new-change.result (change_state c.args.slots.now c.args.bindings.now.rows c.args.rows.now.rows c.args.gone.now c.args.come.now c.in_ok-binding_edits.binding_edits.rows) c.new-change.ensures c.edits_of.new.steps c.plan.new.steps c.plan.ensures.most)

pub returns-clause-ok : goal.returns-clause-ok
unfolding after
returns-clause-ok g c =
    let made = subst (λ (s : ChangeState). IsPatch s.slots s.bindings s.slots (after s) c.in_ok-row_edits.row_edits.rows) c.new-change.ensures c.in_ok-row_edits.ensures.ok in
    let kept = sym c.in_ok-make_room-2.ensures.rows in
    member_plan c.args.gone.now c.args.come.now c.args.slots.now c.make_room-2.new.self c.make_room.new.self c.in_ok-row_edits.row_edits.rows c.in_ok-binding_edits.binding_edits.rows c.requires.few c.requires.apart
    (subst (λ (bs : List Binding). IsPatch c.args.slots.now bs c.args.slots.now (replaced c.args.gone.now c.args.come.now bs) c.in_ok-row_edits.row_edits.rows) kept made)
    (subst (λ (bs : List Binding). AreEditsOf c.args.gone.now c.args.come.now bs c.in_ok-binding_edits.binding_edits.rows) kept c.in_ok-binding_edits.ensures.ok)
    c.in_ok-make_room.ensures.ok c.in_ok-make_room-2.ensures.ok

pub returns-clause-read : goal.returns-clause-read
returns-clause-read g c =
    let read = subst (λ (s : ChangeState). c.edits_of.new.steps + least_steps s.rows (touches s.slots (s.gone ++ s.come)) ≤ c.plan.new.steps) c.new-change.ensures c.in_ok-row_edits.ensures.read in
    omega (arith, read, c.edits_of.ensures.least)

pub returns-clause-looked : goal.returns-clause-looked
returns-clause-looked g c =
    let read = subst (λ (s : ChangeState). c.edits_of.new.steps + least_steps s.rows (touches s.slots (s.gone ++ s.come)) ≤ c.plan.new.steps) c.new-change.ensures c.in_ok-row_edits.ensures.read in
    omega (arith, read, c.in_ok-binding_edits.ensures.looked)
