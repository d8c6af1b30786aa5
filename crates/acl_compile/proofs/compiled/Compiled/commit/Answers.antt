use Rattle.std.proofs.Common.{◌≡◌, ◌≤◌, length, Option, Some, None, sym, ap, subst, ◌∙◌}
use Rattle.std.proofs.Math.Path.{transport}
use Rattle.acl_model.specs.SortKeys.{binding_sort_key}
use Rattle.base_rows.specs.Edits.{edited}
use Rattle.acl_rows.specs.SortKeys.{row_sort_key}
use Rattle.acl_rows.specs.Rows.{Slots}
use Rattle.acl_compile.specs.Compiled.{CompiledState, UrlsApart, IsSound}
use Rattle.acl_compile.specs.Plans.{Plan, SlotChange, slot_set, slots_with, slots_after}
use Rattle.acl_compile.specs.UrlSlots.{AreSlotsOf, AreGuessed}
use Rattle.acl_compile.proofs.PlanLaws.{IsCommitted, committed}
use Rattle.acl_compile.proofs.compiled.Compiled.commit.Given.{Over}
use Rattle.acl_compile.proofs.compiled.Compiled.commit.Goals as goal

pub set_url_slot-requires-clause-few : goal.set_url_slot-requires-clause-few
unfolding slots_after slots_with
set_url_slot-requires-clause-few g c =
    let slot : c.args.plan.slot ≡ Some (c.in-Some.index, c.in-Some.held) = ap (λ (p : Plan). p.slot) (sym c.plan.view_is) ∙ c.in-Some.is in
    let slots : c.args.self.now.slots ≡ c.as_slice.result.now = ap (λ (s : CompiledState). s.slots) (sym c.self.view_is) ∙ sym c.as_slice.ensures.value in
    transport (λ i. length (slots_with (slot i) (slots i)) ≤ 128) c.requires.few

pub set_url_slot-requires-clause-apart_after : goal.set_url_slot-requires-clause-apart_after
unfolding slots_after slots_with
set_url_slot-requires-clause-apart_after g c =
    let slot : c.args.plan.slot ≡ Some (c.in-Some.index, c.in-Some.held) = ap (λ (p : Plan). p.slot) (sym c.plan.view_is) ∙ c.in-Some.is in
    let slots : c.args.self.now.slots ≡ c.as_slice.result.now = ap (λ (s : CompiledState). s.slots) (sym c.self.view_is) ∙ sym c.as_slice.ensures.value in
    transport (λ i. UrlsApart (slots_with (slot i) (slots i))) c.requires.apart

-- what is kept after a plan with a slot of the table, and after one without
with_slot : (g : Over) (c : goal.After-write g) → IsCommitted c.args.self.now c.args.plan c.set_slot.new.slots.items c.make_edits-2.new.self.rows c.make_edits.new.self.rows c.self.inside.defaults c.set_url_slot.new.url_slots.rows c.write.new.self
unfolding slots_with
with_slot g c =
    let slot : c.args.plan.slot ≡ Some (c.in-Some.index, c.in-Some.held) = ap (λ (p : Plan). p.slot) (sym c.plan.view_is) ∙ c.in-Some.is in
    committed c.args.self.now c.args.plan c.set_slot.new.slots.items c.make_edits-2.new.self.rows c.make_edits.new.self.rows c.self.inside.defaults c.set_url_slot.new.url_slots.rows c.write.new.self c.requires
    (subst (λ (s : CompiledState). IsSound s.slots s.bindings s.rows c.self.inside.defaults) c.self.view_is c.self.invariant.sound)
    (c.set_slot.ensures ∙ (λ i. slots_with (sym slot i) (c.self.view_is i).slots))
    (c.make_edits-2.ensures.rows ∙ (λ i. edited binding_sort_key (c.plan.view_is i).bindings (c.self.view_is i).bindings))
    (c.make_edits.ensures.rows ∙ (λ i. edited row_sort_key (c.plan.view_is i).rows (c.self.view_is i).rows))
    (subst (λ (ss : Slots). AreSlotsOf ss c.set_url_slot.new.url_slots.rows) (ap (slot_set (c.in-Some.index, c.in-Some.held)) c.as_slice.ensures.value ∙ sym c.set_slot.ensures) c.set_url_slot.ensures)
    (subst (λ (ss : Slots). AreGuessed ss c.write.new.self) c.as_slice-in-Some.ensures.value c.write.ensures)

without_slot : (g : Over) (c : goal.In_default g) → IsCommitted c.args.self.now c.args.plan c.self.inside.slots.items c.make_edits-2.new.self.rows c.make_edits.new.self.rows c.self.inside.defaults c.self.inside.url_slots.rows c.self.inside.guesses
unfolding slots_with
without_slot g c =
    let slot : c.args.plan.slot ≡ None = ap (λ (p : Plan). p.slot) (sym c.plan.view_is) ∙ c.in_default.is in
    committed c.args.self.now c.args.plan c.self.inside.slots.items c.make_edits-2.new.self.rows c.make_edits.new.self.rows c.self.inside.defaults c.self.inside.url_slots.rows c.self.inside.guesses c.requires
    (subst (λ (s : CompiledState). IsSound s.slots s.bindings s.rows c.self.inside.defaults) c.self.view_is c.self.invariant.sound)
    (λ i. slots_with (sym slot i) (c.self.view_is i).slots)
    (c.make_edits-2.ensures.rows ∙ (λ i. edited binding_sort_key (c.plan.view_is i).bindings (c.self.view_is i).bindings))
    (c.make_edits.ensures.rows ∙ (λ i. edited row_sort_key (c.plan.view_is i).rows (c.self.view_is i).rows))
    c.self.invariant.url_slots_are
    c.self.invariant.guessed

pub invariant_of-self : goal.invariant_of-self
invariant_of-self g c = (with_slot g c).sound

pub invariant_of-self-in_default : goal.invariant_of-self-in_default
invariant_of-self-in_default g c = (without_slot g c).sound

pub returns-in-Some-clause-slots : goal.returns-in-Some-clause-slots
returns-in-Some-clause-slots g c = (with_slot g c).slots_are

pub returns-in-Some-clause-bindings : goal.returns-in-Some-clause-bindings
returns-in-Some-clause-bindings g c = (with_slot g c).bindings_are

pub returns-in-Some-clause-rows : goal.returns-in-Some-clause-rows
returns-in-Some-clause-rows g c = (with_slot g c).rows_are

pub returns-in-Some-clause-most : goal.returns-in-Some-clause-most
returns-in-Some-clause-most g c = (with_slot g c).few

pub returns-in_default-clause-slots : goal.returns-in_default-clause-slots
returns-in_default-clause-slots g c = (without_slot g c).slots_are

pub returns-in_default-clause-bindings : goal.returns-in_default-clause-bindings
returns-in_default-clause-bindings g c = (without_slot g c).bindings_are

pub returns-in_default-clause-rows : goal.returns-in_default-clause-rows
returns-in_default-clause-rows g c = (without_slot g c).rows_are

pub returns-in_default-clause-most : goal.returns-in_default-clause-most
returns-in_default-clause-most g c = (without_slot g c).few

pub write-requires : goal.write-requires
unfolding slots_after slots_with
write-requires g c =
    let slot : c.args.plan.slot ≡ Some (c.in-Some.index, c.in-Some.held) = ap (λ (p : Plan). p.slot) (sym c.plan.view_is) ∙ c.in-Some.is in
    let slots : slot_set (c.in-Some.index, c.in-Some.held) c.args.self.now.slots ≡ c.as_slice-in-Some.result.now = ap (λ (s : CompiledState). slot_set (c.in-Some.index, c.in-Some.held) s.slots) (sym c.self.view_is) ∙ sym c.set_slot.ensures ∙ sym c.as_slice-in-Some.ensures.value in
    subst (λ (ss : Slots). length ss ≤ 128) slots (subst (λ (o : Option SlotChange). length (slots_with o c.args.self.now.slots) ≤ 128) slot c.requires.few)
