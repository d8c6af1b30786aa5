use Rattle.std.proofs.Common.{◌≡◌, ℕ, List, ◌-◌, length}
use Rattle.httparse.specs.Grammar.{RequestHead}
use Rattle.http_requests.specs.Received.{Received}
use Rattle.http_requests.specs.Head.{IsHead}
use Rattle.http_requests.proofs.next.next_head.Given as goal

abbrev pub invariant-more : goal.invariant-more
invariant-more g l =
    let door = g.D.Door in
    record {
      received : door.tells → Received l.initial.buffer l.buffer (door.view l.initial.door).state (door.view l.door).state;
      untouched : (head : RequestHead) (rest : List ℕ) → IsHead l.initial.buffer head rest → l.buffer ≡ l.initial.buffer;
      reads : (door.view l.door).reads ≡ (door.view l.initial.door).reads;
      turns : (door.view l.door).turns ≡ (door.view l.initial.door).turns;
      writes : (door.view l.door).writes ≡ (door.view l.initial.door).writes;
    }

abbrev pub decreases-more : goal.decreases-more
decreases-more g l = 532480 - length l.buffer
