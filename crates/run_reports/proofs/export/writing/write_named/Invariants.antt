use Rattle.std.proofs.Common.{◌≡◌, take}
use Rattle.std.specs.Prelude.{flat_map}
use Rattle.mud_world.specs.Door.{put_out}
use Rattle.run_reports.specs.Export.Sources.{source_text}
use Rattle.run_reports.proofs.export.writing.write_named.Given as goal

abbrev pub invariant-lists : goal.invariant-lists
invariant-lists g l =
    let door = g.D.Door in
    record {
      written : door.tells → (door.view l.door).state ≡ put_out (flat_map (source_text l.sources) (take l.list-index l.names)) (door.view l.initial.door).state;
      writes : (door.view l.door).writes ≡ (door.view l.initial.door).writes;
      turns : (door.view l.door).turns ≡ (door.view l.initial.door).turns;
      reads : (door.view l.door).reads ≡ (door.view l.initial.door).reads;
    }
