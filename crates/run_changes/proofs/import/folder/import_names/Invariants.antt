use Rattle.std.proofs.Common.{◌≡◌, ◌⊎◌, ◌==◌, take}
use Rattle.mud_world.specs.Kept.{faults_of}
use Rattle.mud_world.specs.Causes.{Counts}
use Rattle.run_common.specs.Status.{status_number}
use Rattle.mud_desk.specs.Stays.{StaysKept}
use Rattle.run_changes.specs.Import.Runs.{ImportsAll}
use Rattle.run_changes.specs.Import.Scenes.{scene}
use Rattle.run_changes.proofs.import.folder.import_names.Given as goal

abbrev pub invariant-loop-name : goal.invariant-loop-name
invariant-loop-name g l =
    let door = g.D.Door in
    let spool = g.P.Spool in
    let clock = g.C.Clock in
    let members = g.K.Keeper in
    let status = status_number l.status in
    record {
      stays : StaysKept members l.initial.desk l.desk;
      history : l.desk.state.flows.history ≡ l.initial.desk.state.flows.history;
      all : door.tells → spool.tells → clock.tells → ImportsAll (spool.view l.initial.spool).files (take l.name-index l.names)
          (scene l.initial.desk.state (clock.moments l.initial.clock) (door.view l.initial.door).state (faults_of members l.initial.desk.keeper))
          (scene l.desk.state (clock.moments l.clock) (door.view l.door).state (faults_of members l.desk.keeper)) status;
      statuses : (status ≡ 0) ⊎ ((status ≡ 3) ⊎ (status ≡ 7));
      keeper : Counts (status == 7) (faults_of members l.initial.desk.keeper) (faults_of members l.desk.keeper);
      writes : (door.view l.door).writes ≡ (door.view l.initial.door).writes;
      faults : (spool.view l.spool).faults ≡ (spool.view l.initial.spool).faults;
      same : spool.tells → (spool.view l.spool).files ≡ (spool.view l.initial.spool).files;
      turns : (door.view l.door).turns ≡ (door.view l.initial.door).turns;
      reads : (door.view l.door).reads ≡ (door.view l.initial.door).reads;
    }
