use Rattle.flow_table.specs.Held.{slot_at}
use Rattle.flow_table.proofs.HeldLaws.{room_holds}
use Rattle.flow_table.proofs.table.FlowTable.make_room.Goals as goal

pub invariant_of-self-2 : goal.invariant_of-self-2
unfolding slot_at
invariant_of-self-2 c = room_holds _ _ _ _ _ _ _ _ _ c.self.invariant c.in-Some.is c.in_ok-put.ensures.ok
