use Rattle.std.proofs.Common.{length, ap, ◌∙◌, arith, length-set}
use Rattle.mud_world.specs.MemoryDoor.{memory_state}
use Rattle.mud_world.proofs.Doors.{took_none}
use Rattle.mud_world.proofs.MemoryDoors.{count_door, left-nowhere, piece_left-nowhere, read_door, room-set}
use Rattle.mud_world.proofs.memory_door.MemoryDoorDoor.read.Goals as goal

pub returns-then-not-self-clause-octets : goal.returns-then-not-self-clause-octets
unfolding memory_state
returns-then-not-self-clause-octets c = (took_none _, λ _ _. left-nowhere c.args.self.now c.if-not-self.true)

pub returns-then-not-self-clause-piece : goal.returns-then-not-self-clause-piece
returns-then-not-self-clause-piece c = omega (arith, ap length (piece_left-nowhere c.args.self.now c.if-not-self.true))

pub invariant_of-self-2 : goal.invariant_of-self-2
invariant_of-self-2 c =
    let d = c.args.self.now in
    let i = c.index_mut-wire.ensures.value in
    record {
      wire_each = length-set d.wires.items d.at c.read.new.self ∙ d.wire_each;
      within = omega (arith, d.within, length-set d.wires.items d.at c.read.new.self);
      stands_within = λ e. omega (arith, d.stands_within e, length-set d.wires.items d.at c.read.new.self);
      one_room = room-set d d.at _ c.read.new.self (d.stands_within c.if-not-self.false) i c.read.ensures.room;
    }

pub returns-clause-octets : goal.returns-clause-octets
unfolding memory_state
returns-clause-octets c =
    read_door c.args.self.now _ _ _ _ _ c.if-not-self.false c.pieces_at-pieces.ensures c.index_mut-wire.ensures.value c.read.ensures

pub returns-clause-piece : goal.returns-clause-piece
returns-clause-piece c =
    count_door c.args.self.now _ _ _ _ _ c.if-not-self.false c.pieces_at-pieces.ensures c.index_mut-wire.ensures.value c.read.ensures
