use Rattle.std.proofs.Common.{◌≡◌, ◌≤◌, ◌-◌, length, take, false}
use Rattle.mud_world.specs.Door.{put_out}
use Rattle.mud_world.proofs.whole.say.Given as goal

abbrev pub invariant-loop-at : goal.invariant-loop-at
invariant-loop-at g l =
    let door = g.D.Door in
    record {
      wrote : door.tells → (door.view l.door).state ≡ put_out (take l.at l.line) (door.view l.initial.door).state;
      nowhere : door.tells → (door.view l.initial.door).state.stands ≡ false → l.at ≡ 0;
      within : l.at ≤ length l.line;
      writes : (door.view l.door).writes ≡ (door.view l.initial.door).writes;
      turns : (door.view l.door).turns ≡ (door.view l.initial.door).turns;
      reads : (door.view l.door).reads ≡ (door.view l.initial.door).reads;
    }

abbrev pub decreases-loop-at : goal.decreases-loop-at
decreases-loop-at g l = length l.line - l.at
