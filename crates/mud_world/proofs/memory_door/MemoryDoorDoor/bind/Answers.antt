use Rattle.mud_world.specs.MemoryDoor.{memory_state}
use Rattle.mud_world.proofs.MemoryDoors.{bound_anew_door}
use Rattle.mud_world.proofs.memory_door.MemoryDoorDoor.bind.Goals as goal

pub returns-clause-ok : goal.returns-clause-ok
unfolding memory_state
returns-clause-ok c = bound_anew_door c.args.self.now c.args.port
