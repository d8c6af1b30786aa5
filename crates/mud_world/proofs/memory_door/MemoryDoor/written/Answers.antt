use Rattle.std.proofs.Common.{◌<◌, length, arith, sym, ◌∙◌}
use Rattle.mud_world.proofs.MemoryDoors.{length-connections, outputs-wire}
use Rattle.mud_world.proofs.memory_door.MemoryDoor.written.Goals as goal

pub index-requires : goal.index-requires
index-requires c = let d = c.args.self.now in omega (arith, length-connections d, d.wires.ok.0)

pub returns : goal.returns
returns c =
    let d = c.args.self.now in
    let within : c.args.connection < length d.wires.items = omega (arith, length-connections d) in
    c.written.ensures ∙ sym (outputs-wire d c.args.connection _ within c.index.ensures)
