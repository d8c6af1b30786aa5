use Rattle.std.proofs.Common.{◌≡◌, ◌≤◌, ◌-◌, length, take}
use Rattle.mud_world.specs.Door.{Took}
use Rattle.run_captures.proofs.first.read_first.Given as goal

abbrev pub invariant-first : goal.invariant-first
invariant-first g l =
    let door = g.D.Door in
    record {
      took : door.tells → Took (take l.len l.octets) (door.view l.initial.door).state (door.view l.door).state;
      within : l.len ≤ 4;
      whole : length l.octets ≡ 4;
      reads : (door.view l.door).reads ≡ (door.view l.initial.door).reads;
      turns : (door.view l.door).turns ≡ (door.view l.initial.door).turns;
      writes : (door.view l.door).writes ≡ (door.view l.initial.door).writes;
    }

abbrev pub decreases-first : goal.decreases-first
decreases-first g l = 4 - l.len
