use Rattle.std.proofs.Common.{◌≡◌, ◌⊎◌, ◌≤◌, ◌-◌, [], length}
use Rattle.read_buffer.specs.Reading.{Fetched}
use Rattle.read_buffer.proofs.buffer.fetch.Given as goal

abbrev pub invariant-more : goal.invariant-more
invariant-more g l =
    let door = g.D.Door in
    record {
      octets : door.tells → Fetched l.initial.buffer.held l.buffer.held (door.view l.initial.source).state (door.view l.source).state;
      untouched : l.count ≤ length l.initial.buffer.held → (l.source ≡ l.initial.source) × (l.buffer.held ≡ l.initial.buffer.held);
      kept : l.count ≤ length l.initial.buffer.held → l.buffer.given ≡ l.initial.buffer.given;
      given : (l.buffer.held ≡ l.initial.buffer.held) ⊎ (l.buffer.given ≡ []);
      reads : (door.view l.source).reads ≡ (door.view l.initial.source).reads;
      turns : (door.view l.source).turns ≡ (door.view l.initial.source).turns;
      writes : (door.view l.source).writes ≡ (door.view l.initial.source).writes;
    }

abbrev pub decreases-more : goal.decreases-more
decreases-more g l = l.count - length l.buffer.held
