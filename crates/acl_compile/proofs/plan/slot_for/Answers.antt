use Rattle.std.proofs.Common.{sym, subst}
use Rattle.acl_compile.specs.Plans.{IsSlotFor}
use Rattle.acl_compile.proofs.SlotLaws.{slot_found, slot_free}
use Rattle.acl_compile.proofs.plan.slot_for.Goals as goal

pub returns-in-Some : goal.returns-in-Some
returns-in-Some c =
    subst (IsSlotFor c.args.url.now c.args.slots.now) (sym c.from.ensures)
    (slot_found c.args.url.now c.args.slots.now c.in-Some.slot_number c.in-Some.field-0-1.now c.requires.few c.requires.apart (sym c.in-Some.ensures))

pub returns-in-None : goal.returns-in-None
returns-in-None c = slot_free c.args.url.now c.args.slots.now c.free_slot.result c.requires.few (sym c.in-None.ensures) c.free_slot.ensures.within c.free_slot.ensures.free c.free_slot.ensures.full
