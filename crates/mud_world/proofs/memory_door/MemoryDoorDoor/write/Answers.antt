use Rattle.std.proofs.Common.{◌≡◌, take, ap, ◌∙◌, arith, length-set}
use Rattle.std.proofs.lemmas.List.{length-take}
use Rattle.mud_world.specs.Wire.{WireState}
use Rattle.mud_world.specs.MemoryDoor.{memory_state, room_left}
use Rattle.mud_world.proofs.MemoryDoors.{put_door, room-set, room_left-standing}
use Rattle.mud_world.proofs.memory_door.MemoryDoorDoor.write.Goals as goal

pub write-requires : goal.write-requires
unfolding memory_state
write-requires c =
    let d = c.args.self.now in
    let left : c.room_left.result ≡ room_left d = c.room_left.ensures in
    omega (arith, left, room_left-standing d _ c.if-self.true c.index_mut.ensures.value, length-take c.min-count.result c.args.piece.now)

pub invariant_of-self-then-self : goal.invariant_of-self-then-self
invariant_of-self-then-self c =
    let d = c.args.self.now in
    let len = length-set d.wires.items d.at c.write.new.self in
    record {
      wire_each = len ∙ d.wire_each;
      within = omega (arith, d.within, len);
      stands_within = λ e. omega (arith, d.stands_within e, len);
      one_room = room-set d d.at _ c.write.new.self (d.stands_within c.if-self.true) c.index_mut.ensures.value (ap (λ (w : WireState). w.room) c.write.ensures);
    }

pub returns-then-self-clause-octets : goal.returns-then-self-clause-octets
unfolding memory_state
returns-then-self-clause-octets c =
    let octets = take c.min-count.result c.args.piece.now in
    put_door c.args.self.now _ c.write.new.self octets c.if-self.true c.index_mut.ensures.value
    (ap (λ (w : WireState). w.piece) c.write.ensures) (ap (λ (w : WireState). w.offset) c.write.ensures) (ap (λ (w : WireState). w.written) c.write.ensures)
