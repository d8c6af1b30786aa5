use Rattle.std.proofs.Common.{◌≡◌, ℕ, None, List, [], length, map, replicate, sym, ap, ◌∙◌, refl, arith}
use Rattle.std.proofs.lemmas.List.{length-replicate}
use Rattle.mud_world.specs.Wire.{WireState, fresh}
use Rattle.mud_world.specs.MemoryConnections.{connections_of, entered, room_of}
use Rattle.mud_world.specs.MemoryDoor.{memory_state}
use Rattle.mud_world.proofs.Connections.{connections_of-fresh, rooms-fresh}
use Rattle.mud_world.proofs.memory_door.MemoryDoor.new.Goals as goal

pub invariant_of-result : goal.invariant_of-result
invariant_of-result c =
    let wires = c.in_ok-wires.wires.items in
    let made : wires ≡ replicate (length c.args.inputs) (fresh c.args.room) = c.in_ok-wires.ensures ∙ ap (λ (n : ℕ). replicate n (fresh c.args.room)) c.len.ensures in
    let each : length wires ≡ length c.args.inputs = ap length made ∙ length-replicate (length c.args.inputs) (fresh c.args.room) in
    let rooms : map room_of wires ≡ replicate (length wires) c.args.room =
    ap (map room_of) made ∙ rooms-fresh (length c.args.inputs) c.args.room ∙ ap (λ (n : ℕ). replicate n c.args.room) (sym each) in
    record { wire_each = each; within = omega arith; stands_within = λ _. omega (arith, c.requires); one_room = rooms }

pub returns : goal.returns
unfolding memory_state
returns c =
    let made : c.in_ok-wires.wires.items ≡ replicate (length c.args.inputs) (fresh c.args.room) = c.in_ok-wires.ensures ∙ ap (λ (n : ℕ). replicate n (fresh c.args.room)) c.len.ensures in
    record {
      given = refl;
      state = ap (λ (ws : List WireState). entered None [] (connections_of c.args.inputs ws)) made ∙ ap (entered None []) (connections_of-fresh c.args.inputs c.args.room);
      room = refl;
      failing_bind = c.new.ensures;
      failing_next = c.new-2.ensures;
      failing_read = c.new-3.ensures;
      failing_write = c.new-4.ensures;
      turns = refl;
      reads = refl;
      writes = refl;
      calls = refl;
      fine = refl;
    }
