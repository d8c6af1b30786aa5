use Rattle.std.proofs.Common.{◌≡◌, ℕ, ◌+◌, ◌*◌, ◌^◌, ◌<◌, ◌≤◌, ◌++◌, length, OnOk, ap, ◌∙◌}
use Rattle.std.proofs.Math.Path.{transport}
use Rattle.acl_changes.specs.Touched.{touches}
use Rattle.acl_compile.specs.Compiled.{CompiledState}
use Rattle.acl_changes.specs.Steps.{least_looks, least_steps, HaveKeys, sort_key_steps}
use Rattle.acl_compile.proofs.compiled.Compiled.plan_member.Goals as goal

pub returns-clause-most : goal.returns-clause-most
returns-clause-most g c =
    let slots : c.as_slice.result.now ≡ c.args.self.now.slots = c.as_slice.ensures.value ∙ ap (λ (s : CompiledState). s.slots) c.self.view_is in
    transport (λ i. (s b k : ℕ) → HaveKeys s (slots i) → length (c.self.view_is i).bindings + length c.args.come.now < 2 ^ b → length (c.self.view_is i).rows < 2 ^ k → c.plan_change.new.steps ≤ c.args.steps.now + (length c.args.gone.now + length c.args.come.now + length (touches (slots i) (c.args.gone.now ++ c.args.come.now))) * sort_key_steps s b k)
    c.plan_change.ensures.most

pub returns-clause-least : goal.returns-clause-least
returns-clause-least g c =
    let slots : c.as_slice.result.now ≡ c.args.self.now.slots = c.as_slice.ensures.value ∙ ap (λ (s : CompiledState). s.slots) c.self.view_is in
    transport (λ i. OnOk c.plan_change.result (c.args.steps.now + least_steps (c.self.view_is i).rows (touches (slots i) (c.args.gone.now ++ c.args.come.now)) ≤ c.plan_change.new.steps))
    c.plan_change.ensures.read

pub returns-clause-looked : goal.returns-clause-looked
returns-clause-looked g c =
    let slots : c.as_slice.result.now ≡ c.args.self.now.slots = c.as_slice.ensures.value ∙ ap (λ (s : CompiledState). s.slots) c.self.view_is in
    transport (λ i. OnOk c.plan_change.result (c.args.steps.now + least_looks (c.self.view_is i).bindings c.args.gone.now + least_looks (c.self.view_is i).bindings c.args.come.now + least_steps (c.self.view_is i).rows (touches (slots i) (c.args.gone.now ++ c.args.come.now)) ≤ c.plan_change.new.steps))
    c.plan_change.ensures.looked
