use Rattle.std.proofs.Common.{◌≡◌, [], false}
use Rattle.mud_world.specs.Kept.{faults_of}
use Rattle.mud_world.specs.Causes.{Counts}
use Rattle.mud_world.specs.Door.{DoorState}
use Rattle.run_captures.specs.Reading.{is_broken, most_to_come}
use Rattle.run_captures.specs.Runs.{HasDone}
use Rattle.mud_desk.specs.DeskState.{session_of}
use Rattle.mud_desk.specs.Stays.{StaysKept}
use Rattle.run_packets.proofs.SnoopLaws.Snooped.{HasSnooped}
use Rattle.run_packets.proofs.snoop.capture.snoop_packets.Given as goal

abbrev pub invariant-packets : goal.invariant-packets
invariant-packets g l =
    let door = g.D.Door in
    let members = g.K.Keeper in
    record {
      stays : StaysKept members l.initial.desk l.desk;
      snooped : (first : DoorState) → door.tells
          → HasDone [] [] l.initial.reader first (door.view l.initial.door).state l.initial.lines
          → HasSnooped (session_of l.initial.desk.state) first (faults_of members l.initial.desk.keeper) (session_of l.desk.state) (door.view l.door).state (faults_of members l.desk.keeper) l.reader l.lines l.failed;
      keeper : Counts l.failed (faults_of members l.initial.desk.keeper) (faults_of members l.desk.keeper);
      going : is_broken l.reader ≡ false;
      writes : (door.view l.door).writes ≡ (door.view l.initial.door).writes;
      turns : (door.view l.door).turns ≡ (door.view l.initial.door).turns;
      reads : (door.view l.door).reads ≡ (door.view l.initial.door).reads;
    }

abbrev pub decreases-packets : goal.decreases-packets
decreases-packets g l = most_to_come l.reader
