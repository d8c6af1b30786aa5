use Rattle.std.proofs.Common.{◌≡◌, ℕ, ◌+◌, ◌*◌, ◌^◌, ◌<◌, ◌≤◌, length, sym, subst, ◌∙◌, arith}
use Rattle.std.specs.Option.{option_copied}
use Rattle.acl_rows.specs.declared.row.Owner.TheVariants.{Url}
use Rattle.acl_rows.specs.Rows.{Slots}
use Rattle.acl_changes.specs.Patch.{IsPatch}
use Rattle.acl_changes.specs.PolicyTouched.{owner_rows, new_touches, IsSlotChange}
use Rattle.acl_compile.specs.Compiled.{UrlsApart}
use Rattle.acl_changes.specs.Fresh.{policy_count}
use Rattle.acl_compile.specs.Plans.{IsSlotFor, others_held}
use Rattle.acl_changes.specs.Steps.{HaveKeys, PolicyKeys, sort_key_steps}
use Rattle.acl_compile.proofs.SlotLaws.{policy_plan, policy_most, policy_least}
use Rattle.acl_compile.proofs.plan.plan_slot.Goals as goal

pub returns-in_default-clause-most : goal.returns-in_default-clause-most
returns-in_default-clause-most g c =
    policy_most c.args.url.now (option_copied c.args.policy) c.args.slots.now.items c.args.bindings.now.rows c.args.rows.now.rows c.slot_for-slot_number.result c.in_ok-held.held c.args.steps.now c.slot_rows.new.steps
    (subst (λ (ss : Slots). IsSlotFor c.args.url.now ss c.slot_for-slot_number.result) c.as_slice.ensures.value c.slot_for-slot_number.ensures) c.requires.kept c.in_ok-held.ensures
    (subst (λ (ss : Slots). (s b k : ℕ) → HaveKeys s ss → PolicyKeys s c.in_ok-held.held → length c.args.bindings.now.rows < 2 ^ b → length c.args.rows.now.rows < 2 ^ k
    → c.slot_rows.new.steps ≤ c.args.steps.now + length (owner_rows (Url c.slot_for-slot_number.result) c.args.rows.now.rows) + (policy_count c.in_ok-held.held + length (new_touches c.args.bindings.now.rows (Url c.slot_for-slot_number.result) c.in_ok-held.held) + 1) * sort_key_steps s b k)
    c.as_slice-2.ensures.value c.slot_rows.ensures.most)

pub returns-in_default-make_slot_room-clause-most : goal.returns-in_default-make_slot_room-clause-most
returns-in_default-make_slot_room-clause-most g c =
    policy_most c.args.url.now (option_copied c.args.policy) c.args.slots.now.items c.args.bindings.now.rows c.args.rows.now.rows c.slot_for-slot_number.result c.in_ok-held.held c.args.steps.now c.slot_rows.new.steps
    (subst (λ (ss : Slots). IsSlotFor c.args.url.now ss c.slot_for-slot_number.result) c.as_slice.ensures.value c.slot_for-slot_number.ensures) c.requires.kept c.in_ok-held.ensures
    (subst (λ (ss : Slots). (s b k : ℕ) → HaveKeys s ss → PolicyKeys s c.in_ok-held.held → length c.args.bindings.now.rows < 2 ^ b → length c.args.rows.now.rows < 2 ^ k
    → c.slot_rows.new.steps ≤ c.args.steps.now + length (owner_rows (Url c.slot_for-slot_number.result) c.args.rows.now.rows) + (policy_count c.in_ok-held.held + length (new_touches c.args.bindings.now.rows (Url c.slot_for-slot_number.result) c.in_ok-held.held) + 1) * sort_key_steps s b k)
    c.as_slice-2.ensures.value c.slot_rows.ensures.most)

pub returns-clause-most : goal.returns-clause-most
returns-clause-most g c =
    policy_most c.args.url.now (option_copied c.args.policy) c.args.slots.now.items c.args.bindings.now.rows c.args.rows.now.rows c.slot_for-slot_number.result c.in_ok-held.held c.args.steps.now c.slot_rows.new.steps
    (subst (λ (ss : Slots). IsSlotFor c.args.url.now ss c.slot_for-slot_number.result) c.as_slice.ensures.value c.slot_for-slot_number.ensures) c.requires.kept c.in_ok-held.ensures
    (subst (λ (ss : Slots). (s b k : ℕ) → HaveKeys s ss → PolicyKeys s c.in_ok-held.held → length c.args.bindings.now.rows < 2 ^ b → length c.args.rows.now.rows < 2 ^ k
    → c.slot_rows.new.steps ≤ c.args.steps.now + length (owner_rows (Url c.slot_for-slot_number.result) c.args.rows.now.rows) + (policy_count c.in_ok-held.held + length (new_touches c.args.bindings.now.rows (Url c.slot_for-slot_number.result) c.in_ok-held.held) + 1) * sort_key_steps s b k)
    c.as_slice-2.ensures.value c.slot_rows.ensures.most)

pub returns-clause-ok : goal.returns-clause-ok
returns-clause-ok g c =
    let kept : c.args.slots.now.items ≡ c.make_slot_room.new.slots.items = sym c.in-Ok-make_slot_room.ensures.slots in
    let slot_number : IsSlotFor c.args.url.now c.make_slot_room.new.slots.items c.slot_for-slot_number.result = subst (λ (ss : Slots). IsSlotFor c.args.url.now ss c.slot_for-slot_number.result) (c.as_slice.ensures.value ∙ kept) c.slot_for-slot_number.ensures in
    policy_plan c.args.url.now (option_copied c.args.policy) c.make_slot_room.new.slots.items c.args.bindings.now c.make_slot_room.new.rows _ c.make_slot_room.new.url_slots.room c.slot_for-slot_number.result c.in_ok-held.held c.in-Ok.edits.rows c.new.result.rows
    slot_number
    (subst (λ (ss : Slots). length ss ≤ 128) kept c.requires.few)
    (subst UrlsApart kept c.requires.apart)
    (subst (λ (ss : Slots). others_held c.args.url.now ss < 128) kept c.requires.others)
    c.in_ok-held.ensures c.new.ensures.rows
    (subst (λ (ss : Slots). (new : Slots) → IsSlotChange ss new c.slot_for-slot_number.result c.in_ok-held.held → IsPatch ss c.args.bindings.now.rows new c.args.bindings.now.rows c.in-Ok.edits.rows) (c.as_slice-2.ensures.value ∙ kept) c.in-Ok.ensures.ok)
    c.in-Ok-make_slot_room.ensures.row_room
    (omega (arith, slot_number.within, c.in-Ok-make_slot_room.ensures.slot_room, c.make_slot_room.new.slots.ok.0))
    c.in-Ok-make_slot_room.ensures.url_slot_room

pub returns-clause-read : goal.returns-clause-read
returns-clause-read g c =
    policy_least c.args.url.now (option_copied c.args.policy) c.args.slots.now.items c.args.bindings.now.rows c.args.rows.now.rows c.slot_for-slot_number.result c.in_ok-held.held c.args.steps.now c.slot_rows.new.steps
    (subst (λ (ss : Slots). IsSlotFor c.args.url.now ss c.slot_for-slot_number.result) c.as_slice.ensures.value c.slot_for-slot_number.ensures) c.requires.kept c.in_ok-held.ensures
    c.in-Ok.ensures.read
