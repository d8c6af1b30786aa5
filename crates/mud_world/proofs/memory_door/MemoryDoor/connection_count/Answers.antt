use Rattle.std.proofs.Common.{arith}
use Rattle.mud_world.proofs.MemoryDoors.{length-connections}
use Rattle.mud_world.proofs.memory_door.MemoryDoor.connection_count.Goals as goal

pub returns : goal.returns
returns c = let d = c.args.self.now in omega (arith, length-connections d, d.wires.ok.0)
