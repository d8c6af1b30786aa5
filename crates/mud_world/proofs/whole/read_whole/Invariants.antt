use Rattle.std.proofs.Common.{◌≡◌, ◌+◌, ◌≤◌, ◌-◌, length}
use Rattle.mud_world.specs.Door.{Took}
use Rattle.mud_world.proofs.whole.read_whole.Given as goal

abbrev pub invariant-more : goal.invariant-more
invariant-more g l =
    let door = g.D.Door in
    record {
      took : door.tells → Took l.text (door.view l.initial.door).state (door.view l.door).state;
      within : length l.text ≤ l.most + 1;
      reads : (door.view l.door).reads ≡ (door.view l.initial.door).reads;
      turns : (door.view l.door).turns ≡ (door.view l.initial.door).turns;
      writes : (door.view l.door).writes ≡ (door.view l.initial.door).writes;
    }

abbrev pub decreases-more : goal.decreases-more
decreases-more g l = l.most + 1 - length l.text
