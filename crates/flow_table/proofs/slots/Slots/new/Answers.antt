use Rattle.flow_table.proofs.SlotLaws.{no_slots}
use Rattle.flow_table.proofs.slots.Slots.new.Goals as goal

pub returns : goal.returns
returns c = no_slots _ _ c.new.ensures.empty c.new-2.ensures.empty
