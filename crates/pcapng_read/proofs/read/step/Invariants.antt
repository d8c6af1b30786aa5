use Rattle.std.proofs.Common.{◌≡◌, ◌≤◌, ◌-◌}
use Rattle.std.specs.Prelude.{IsTrue}
use Rattle.read_buffer.specs.Reading.{Follows, behind}
use Rattle.pcapng_read.specs.Parts.{IsWithin, blocks_at, is_decided}
use Rattle.pcapng_read.proofs.read.step.Given as goal

abbrev pub invariant-forward : goal.invariant-forward
invariant-forward g l =
    let door = g.D.Door in
    record {
      octets : door.tells → Follows (behind (blocks_at l.initial.standing) l.initial.buffer.held) (behind (blocks_at l.standing) l.buffer.held) (door.view l.initial.source).state (door.view l.source).state;
      within : IsWithin l.standing;
      further : l.initial.standing.blocks ≤ l.standing.blocks;
      unread : IsTrue (is_decided l.initial.standing.section.order l.initial.buffer.held)
          → (l.source ≡ l.initial.source) × (l.buffer.held ≡ l.initial.buffer.held) × (l.standing.section.order ≡ l.initial.standing.section.order);
      reads : (door.view l.source).reads ≡ (door.view l.initial.source).reads;
      turns : (door.view l.source).turns ≡ (door.view l.initial.source).turns;
      writes : (door.view l.source).writes ≡ (door.view l.initial.source).writes;
    }

abbrev pub decreases-forward : goal.decreases-forward
decreases-forward g l = 100000000 - l.standing.blocks
