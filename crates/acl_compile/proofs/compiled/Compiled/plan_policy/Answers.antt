use Rattle.std.proofs.Common.{ℕ, ◌+◌, ◌^◌, ◌<◌, ◌≤◌, length, OnOk, subst}
use Rattle.std.specs.Option.{option_copied}
use Rattle.acl_compile.specs.Compiled.{CompiledState}
use Rattle.acl_changes.specs.Steps.{HaveKeys, PolicyKeys}
use Rattle.acl_compile.specs.Plans.{held_for, policy_reads, policy_steps}
use Rattle.acl_compile.proofs.compiled.Compiled.plan_policy.Goals as goal

pub returns-clause-most : goal.returns-clause-most
returns-clause-most g c =
    subst (λ (x : CompiledState). (s b k : ℕ) → HaveKeys s x.slots → PolicyKeys s (held_for c.args.url.now (option_copied c.args.policy)) → length x.bindings < 2 ^ b → length x.rows < 2 ^ k
    → c.plan_slot.new.steps ≤ c.args.steps.now + policy_steps c.args.url.now (option_copied c.args.policy) x.slots x.bindings x.rows s b k)
    c.self.view_is c.plan_slot.ensures.most

pub returns-clause-least : goal.returns-clause-least
returns-clause-least g c =
    subst (λ (x : CompiledState). OnOk c.plan_slot.result (c.args.steps.now + policy_reads c.args.url.now (option_copied c.args.policy) x.slots x.bindings x.rows ≤ c.plan_slot.new.steps))
    c.self.view_is c.plan_slot.ensures.read
