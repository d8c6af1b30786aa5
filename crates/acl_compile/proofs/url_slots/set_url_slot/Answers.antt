use Rattle.std.proofs.Common.{List, Option, ap, sym, subst, ◌∙◌, arith}
use Rattle.acl_model.specs.Policies.{UrlPolicy}
use Rattle.acl_compile.specs.Plans.{slot_set}
use Rattle.acl_compile.specs.UrlSlots.{UrlAndSlot, AreSlotsOf, url_slots_without, url_slots_with}
use Rattle.acl_compile.proofs.SlotLaws.{slot_change, slot_within}
use Rattle.acl_compile.proofs.UrlSlotLaws.{kept_up}
use Rattle.acl_compile.proofs.url_slots.set_url_slot.Goals as goal

pub returns : goal.returns
returns c =
    subst (λ (ps : List UrlAndSlot). AreSlotsOf (slot_set (c.args.index, c.args.held.now) c.args.slots.now) ps)
    (sym (c.put_url_slot.ensures ∙ ap (url_slots_with c.args.index c.args.held.now) (c.take_url_slot.ensures.rows ∙ ap (λ (gone : Option UrlPolicy). url_slots_without gone c.args.url_slots.now.rows) c.held_in.ensures)))
    (kept_up c.args.slots.now (slot_set (c.args.index, c.args.held.now) c.args.slots.now) c.args.index c.args.held.now
    (slot_change c.args.slots.now c.args.index c.args.held.now c.requires.within) c.requires.apart c.requires.apart_after c.args.url_slots.now.rows c.rows-ascending.ensures.ascend c.requires.before)

pub overflow_cast-index : goal.overflow_cast-index
overflow_cast-index c = omega (arith, slot_within c.args.slots.now c.args.index c.args.held.now c.requires.within, c.requires.few)
