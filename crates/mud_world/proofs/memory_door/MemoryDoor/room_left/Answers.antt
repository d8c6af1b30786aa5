use Rattle.std.proofs.Common.{sym, ◌∙◌}
use Rattle.mud_world.proofs.MemoryDoors.{room_left-nowhere, room_left-standing}
use Rattle.mud_world.proofs.memory_door.MemoryDoor.room_left.Goals as goal

pub returns-then-self : goal.returns-then-self
returns-then-self c = c.room_left.ensures ∙ sym (room_left-standing c.args.self.now _ c.if-self.true c.index.ensures)

pub returns-else-self : goal.returns-else-self
returns-else-self c = sym (room_left-nowhere c.args.self.now c.if-self.false)
