use Rattle.std.proofs.Common.{◌≡◌}
use Rattle.pcapng_read.specs.Reading.{Passes}
use Rattle.pcapng_read.proofs.read.pass.Given as goal

abbrev pub invariant-pieces : goal.invariant-pieces
invariant-pieces g l =
    let door = g.D.Door in
    record {
      octets : door.tells → Passes l.count l.left l.initial.buffer.held l.buffer.held (door.view l.initial.source).state (door.view l.source).state;
      reads : (door.view l.source).reads ≡ (door.view l.initial.source).reads;
      turns : (door.view l.source).turns ≡ (door.view l.initial.source).turns;
      writes : (door.view l.source).writes ≡ (door.view l.initial.source).writes;
    }

abbrev pub decreases-pieces : goal.decreases-pieces
decreases-pieces g l = l.left
