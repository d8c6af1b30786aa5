use Rattle.std.proofs.Common.{◌∙◌}
use Rattle.flow_table.specs.Slots.{slots_of}
use Rattle.flow_table.proofs.SlotLaws.{slot_above, slot_below}
use Rattle.flow_table.proofs.slots.Slots.get.Goals as goal

pub returns-in-Some : goal.returns-in-Some
unfolding slots_of
returns-in-Some c = rw (← c.self.view_is) (slot_above _ _ _ _ c.in-Some.ensures)

pub returns-in-None : goal.returns-in-None
unfolding slots_of
returns-in-None c = rw (← c.self.view_is) (c.long_slot.ensures ∙ slot_below _ _ _ c.in-None.ensures)
