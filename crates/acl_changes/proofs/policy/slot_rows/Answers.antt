use Rattle.std.proofs.Common.{◌+◌, ◌*◌, ◌≤◌, ◌<◌, ◌^◌, List, [], length, sym, ap, subst, ◌∙◌, arith}
use Rattle.std.proofs.Math.Path.{transport}
use Rattle.base_rows.specs.Sortable.{SortKeysAscend}
use Rattle.mud_base.specs.declared.packet.Direction.TheVariants.{From, To}
use Rattle.acl_model.specs.declared.binding.Binding.{Binding}
use Rattle.acl_model.specs.SortKeys.{binding_sort_key}
use Rattle.acl_model.specs.Changes.{without_bindings, replaced}
use Rattle.base_rows.specs.declared.edit.Edit.{Edit}
use Rattle.base_rows.specs.Edits.{edited}
use Rattle.acl_rows.specs.declared.row.Owner.TheVariants.{Url}
use Rattle.acl_rows.specs.SortKeys.{row_sort_key}
use Rattle.acl_rows.specs.View.{rows_of_side}
use Rattle.acl_rows.proofs.AtSortKeys.{ascend-rows_of}
use Rattle.acl_changes.specs.PolicyTouched.{new_touches, owner_rows}
use Rattle.acl_changes.specs.Change.{ChangeState}
use Rattle.acl_changes.specs.Fresh.{Fresh, fresh_of, more_fresh, policy_count, left_edits}
use Rattle.acl_changes.proofs.PolicyRows.{slot_patch, policy_cost}
use Rattle.acl_changes.proofs.policy.slot_rows.Goals as goal

pub new-change-requires-clause-made : goal.new-change-requires-clause-made
unfolding replaced without_bindings edited
new-change-requires-clause-made g c = ap (λ (es : List (Edit Binding)). edited binding_sort_key es c.args.bindings.now.rows) c.new-unchanged.ensures.rows

pub plan_own-requires : goal.plan_own-requires
plan_own-requires g c = subst (SortKeysAscend row_sort_key) (sym c.requires) (ascend-rows_of c.args.slots.now c.args.bindings.now.rows)

pub returns-clause-ok : goal.returns-clause-ok
returns-clause-ok g c = λ new change.
    let kept = c.requires in
    let fresh =
    c.in_ok-fresh.ensures.ok new change.here
    ∙ (λ i. more_fresh (c.new-change.ensures i).slots (c.new-change.ensures i).bindings new (new_touches (c.new-change.ensures i).bindings (Url c.args.index) c.args.held.now) (fresh_of [] [])) in
    slot_patch c.args.slots.now c.args.bindings.now.rows new c.args.index c.args.held.now change c.in_ok-fresh.fresh c.fresh.inside.edits.rows fresh
    (ap (λ (s : Fresh). s.edits) c.fresh.view_is
    ∙ c.in_ok-plan_own.ensures.ok
    ∙ (λ j. left_edits (kept j) c.in_ok-fresh.fresh.rows (rows_of_side (Url c.args.index) To (kept j)) (left_edits (kept j) c.in_ok-fresh.fresh.rows (rows_of_side (Url c.args.index) From (kept j)) c.in_ok-fresh.fresh.edits)))

pub returns-in_err-fresh-clause-most : goal.returns-in_err-fresh-clause-most
returns-in_err-fresh-clause-most g c = λ s b k keys held few rows.
    let first =
    transport (λ i. c.fresh_rows.new.steps ≤ c.args.steps.now + policy_count c.args.held.now * b + length (new_touches (c.new-change.ensures i).bindings (Url c.args.index) c.args.held.now) * (s * b + k + 1))
    (c.fresh_rows.ensures.most s b k held (subst (λ (x : ChangeState). length x.bindings < 2 ^ b) (sym c.new-change.ensures) few) (subst (λ (x : ChangeState). length x.rows < 2 ^ k) (sym c.new-change.ensures) rows)) in
    policy_cost c.args.slots.now c.args.steps.now c.fresh_rows.new.steps c.fresh_rows.new.steps (length (owner_rows (Url c.args.index) c.args.rows.now.rows)) (policy_count c.args.held.now) (length (new_touches c.args.bindings.now.rows (Url c.args.index) c.args.held.now)) s b k keys first (omega arith)

pub returns-in_err-plan_own-clause-most : goal.returns-in_err-plan_own-clause-most
returns-in_err-plan_own-clause-most g c = λ s b k keys held few rows.
    let first =
    transport (λ i. c.fresh_rows.new.steps ≤ c.args.steps.now + policy_count c.args.held.now * b + length (new_touches (c.new-change.ensures i).bindings (Url c.args.index) c.args.held.now) * (s * b + k + 1))
    (c.fresh_rows.ensures.most s b k held (subst (λ (x : ChangeState). length x.bindings < 2 ^ b) (sym c.new-change.ensures) few) (subst (λ (x : ChangeState). length x.rows < 2 ^ k) (sym c.new-change.ensures) rows)) in
    policy_cost c.args.slots.now c.args.steps.now c.fresh_rows.new.steps c.plan_own.new.steps (length (owner_rows (Url c.args.index) c.args.rows.now.rows)) (policy_count c.args.held.now) (length (new_touches c.args.bindings.now.rows (Url c.args.index) c.args.held.now)) s b k keys first (omega (arith, c.plan_own.ensures.most))

pub returns-clause-most : goal.returns-clause-most
returns-clause-most g c = λ s b k keys held few rows.
    let first =
    transport (λ i. c.fresh_rows.new.steps ≤ c.args.steps.now + policy_count c.args.held.now * b + length (new_touches (c.new-change.ensures i).bindings (Url c.args.index) c.args.held.now) * (s * b + k + 1))
    (c.fresh_rows.ensures.most s b k held (subst (λ (x : ChangeState). length x.bindings < 2 ^ b) (sym c.new-change.ensures) few) (subst (λ (x : ChangeState). length x.rows < 2 ^ k) (sym c.new-change.ensures) rows)) in
    policy_cost c.args.slots.now c.args.steps.now c.fresh_rows.new.steps c.plan_own.new.steps (length (owner_rows (Url c.args.index) c.args.rows.now.rows)) (policy_count c.args.held.now) (length (new_touches c.args.bindings.now.rows (Url c.args.index) c.args.held.now)) s b k keys first (omega (arith, c.plan_own.ensures.most))

pub returns-clause-read : goal.returns-clause-read
returns-clause-read g c =
    let first = transport (λ i. c.args.steps.now + length (new_touches (c.new-change.ensures i).bindings (Url c.args.index) c.args.held.now) ≤ c.fresh_rows.new.steps) c.in_ok-fresh.ensures.read in
    omega (arith, first, c.in_ok-plan_own.ensures.read)
