use Rattle.std.proofs.Common.{take}
use Rattle.mud_world.specs.Kept.{faults_of}
use Rattle.mud_world.specs.Causes.{Counts}
use Rattle.mud_desk.specs.DeskState.{session_of}
use Rattle.mud_desk.specs.Stays.{StaysKept}
use Rattle.run_packets.specs.Snoop.Learnt.{Learns, names_of}
use Rattle.run_packets.proofs.snoop.observing.learn_rows.Given as goal

abbrev pub invariant-loop-row : goal.invariant-loop-row
invariant-loop-row g l =
    let members = g.K.Keeper in
    record {
      stays : StaysKept members l.initial.desk l.desk;
      all : Learns l.now (names_of l.answers.name (take l.row-index l.answers.rows)) (session_of l.initial.desk.state) (session_of l.desk.state)
          l.initial.lines l.lines (faults_of members l.initial.desk.keeper) (faults_of members l.desk.keeper) l.failed;
      keeper : Counts l.failed (faults_of members l.initial.desk.keeper) (faults_of members l.desk.keeper);
    }
