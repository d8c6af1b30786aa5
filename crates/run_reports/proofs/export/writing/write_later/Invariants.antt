use Rattle.std.proofs.Common.{◌≡◌, take}
use Rattle.std.specs.Prelude.{flat_map}
use Rattle.mud_world.specs.Door.{put_out}
use Rattle.text_values.specs.Lists.{behind_comma}
use Rattle.rule_export.specs.Text.{resolved_text}
use Rattle.run_reports.proofs.export.writing.write_later.Given as goal

abbrev pub invariant-items : goal.invariant-items
invariant-items g l =
    let door = g.D.Door in
    record {
      written : door.tells → (door.view l.door).state ≡ put_out (flat_map (behind_comma (resolved_text l.view l.family)) (take l.item-index l.items)) (door.view l.initial.door).state;
      writes : (door.view l.door).writes ≡ (door.view l.initial.door).writes;
      turns : (door.view l.door).turns ≡ (door.view l.initial.door).turns;
      reads : (door.view l.door).reads ≡ (door.view l.initial.door).reads;
    }
