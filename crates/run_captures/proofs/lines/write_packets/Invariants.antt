use Rattle.std.proofs.Common.{◌≡◌, [], false}
use Rattle.mud_world.specs.Door.{DoorState}
use Rattle.run_captures.specs.Reading.{is_broken, most_to_come}
use Rattle.run_captures.specs.Fold.{IsLeftBy}
use Rattle.run_captures.specs.Runs.{HasDone}
use Rattle.run_captures.proofs.Folded.{HasWritten}
use Rattle.run_captures.proofs.lines.write_packets.Given as goal

abbrev pub invariant-packets : goal.invariant-packets
invariant-packets g l =
    let door = g.D.Door in
    let writer = g.L.PacketLines in
    record {
      left : (s : writer.State) → writer.keeps l.initial.writer s → IsLeftBy (writer.keeps l.writer) writer.step s;
      written : (s : writer.State) → (first : DoorState) → writer.keeps l.initial.writer s → door.tells
          → HasDone [] [] l.initial.reader first (door.view l.initial.door).state l.initial.lines
          → HasWritten (writer.keeps l.writer) writer.step s l.reader first (door.view l.door).state l.lines;
      going : is_broken l.reader ≡ false;
      writes : (door.view l.door).writes ≡ (door.view l.initial.door).writes;
      turns : (door.view l.door).turns ≡ (door.view l.initial.door).turns;
      reads : (door.view l.door).reads ≡ (door.view l.initial.door).reads;
    }

abbrev pub decreases-packets : goal.decreases-packets
decreases-packets g l = most_to_come l.reader
