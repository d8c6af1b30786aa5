use Rattle.std.proofs.Common.{ltb, ap, ◌∙◌}
use Rattle.mud_world.specs.MemoryDoor.{memory_state}
use Rattle.mud_world.proofs.MemoryDoors.{departed_door, gone_on_door, more_door}
use Rattle.mud_world.proofs.memory_door.MemoryDoorDoor.next.Goals as goal

pub returns-then-is_to_fail-clause-err : goal.returns-then-is_to_fail-clause-err
unfolding memory_state
returns-then-is_to_fail-clause-err c = departed_door c.args.self.now _ c.index_after-self.ensures

pub returns-clause-ok : goal.returns-clause-ok
unfolding memory_state
returns-clause-ok c =
    let d = c.args.self.now in
    let at = c.index_after-self.result in
    let more = ap (ltb at) (c.len-2.ensures ∙ d.wires.ok.0) in
    (more ∙ more_door d at c.index_after-self.ensures, gone_on_door d at _ c.index_after-self.ensures more)
