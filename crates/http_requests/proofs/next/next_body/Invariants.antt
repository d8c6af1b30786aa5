use Rattle.std.proofs.Common.{◌≡◌, ◌≤◌, ◌-◌, length}
use Rattle.http_requests.specs.Received.{Grown, Received}
use Rattle.http_requests.proofs.next.next_body.Given as goal

abbrev pub invariant-more : goal.invariant-more
invariant-more g l =
    let door = g.D.Door in
    record {
      grown : Grown l.initial.buffer l.buffer;
      received : door.tells → Received l.initial.buffer l.buffer (door.view l.initial.door).state (door.view l.door).state;
      untouched : l.len ≤ length l.initial.buffer → l.buffer ≡ l.initial.buffer;
      reads : (door.view l.door).reads ≡ (door.view l.initial.door).reads;
      turns : (door.view l.door).turns ≡ (door.view l.initial.door).turns;
      writes : (door.view l.door).writes ≡ (door.view l.initial.door).writes;
    }

abbrev pub decreases-more : goal.decreases-more
decreases-more g l = l.len - length l.buffer
