use Rattle.std.proofs.Common.{◌≡◌, take}
use Rattle.std.specs.Prelude.{flat_map}
use Rattle.mud_world.specs.Door.{put_out}
use Rattle.run_reports.specs.Tables.{due_part}
use Rattle.run_reports.proofs.rows.write_due.Given as goal

abbrev pub invariant-rows : goal.invariant-rows
invariant-rows g l =
    let door = g.D.Door in
    record {
      written : door.tells → (door.view l.door).state ≡ put_out (flat_map (due_part l.now) (take l.row-index l.files)) (door.view l.initial.door).state;
      writes : (door.view l.door).writes ≡ (door.view l.initial.door).writes;
      turns : (door.view l.door).turns ≡ (door.view l.initial.door).turns;
      reads : (door.view l.door).reads ≡ (door.view l.initial.door).reads;
    }
