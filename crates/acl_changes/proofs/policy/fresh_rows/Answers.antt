use Rattle.std.proofs.Common.{◌≡◌, ◌+◌, ◌*◌, ◌≤◌, length, Option, Some, sym, ap, subst, ◌∙◌, arith}
use Rattle.acl_model.specs.Policies.{UrlPolicy}
use Rattle.std.proofs.Math.Path.{transport}
use Rattle.acl_changes.specs.PolicyTouched.{new_touches}
use Rattle.acl_changes.specs.Fresh.{policy_count}
use Rattle.acl_changes.specs.Steps.{PolicyKeys}
use Rattle.acl_changes.proofs.PolicyRows.{no_fresh, policy_fits}
use Rattle.acl_changes.proofs.policy.fresh_rows.Goals as goal

pub returns-in-None-clause-ok : goal.returns-in-None-clause-ok
returns-in-None-clause-ok g c = λ new holds.
    c.new.ensures
    ∙ no_fresh c.args.change.now.slots c.args.change.now.bindings new c.args.owner c.args.held.now c.in-None.is

pub returns-in-Some-clause-most : goal.returns-in-Some-clause-most
returns-in-Some-clause-most g c = λ s b k keys few rows.
    let o = c.of_held.ensures.owner in
    let h : c.of_held.result.1 ≡ c.in-Some.held = c.of_held.ensures.held in
    let some : Some c.of_held.result.1 ≡ c.args.held.now = ap Some h ∙ sym c.in-Some.is in
    let own : PolicyKeys s (Some c.of_held.result.1) = subst (PolicyKeys s) (sym some) keys in
    transport (λ i. c.policy_fresh.new.steps ≤ c.args.steps.now + policy_count (some i) * b + length (new_touches c.args.change.now.bindings (o i) (some i)) * (s * b + k + 1))
    (c.policy_fresh.ensures.most b k (s * b + k) few rows (policy_fits s b k c.of_held.result (own c.of_held.result.0)))

pub returns-in-None-clause-read : goal.returns-in-None-clause-read
unfolding new_touches
returns-in-None-clause-read g c =
    let none = ap (λ (held : Option UrlPolicy). length (new_touches c.args.change.now.bindings c.args.owner held)) c.in-None.is in
    omega (arith, none)
