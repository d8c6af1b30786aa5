use Rattle.std.proofs.Common.{sym, ◌∙◌}
use Rattle.std.proofs.lemmas.Bool.{false≢true}
use Rattle.read_buffer.specs.Reading.{behind}
use Rattle.pcapng_read.specs.Parts.{blocks_at, coming_next}
use Rattle.pcapng_read.proofs.Stages.{held_more, read_packet, decided_head, decided_now}
use Rattle.pcapng_read.proofs.read.read_block.Goals as goal

pub returns-in_err-head-clause-unread : goal.returns-in_err-head-clause-unread
returns-in_err-head-clause-unread g c = λ decided. (c.in_err-head.ensures.unread (decided_head _ _ decided)).0

pub returns-in_default-clause-packet : goal.returns-in_default-clause-packet
returns-in_default-clause-packet g c = λ decided.
    let some = c.in_ok-head.ensures.some (decided_head _ _ decided) in
    rw c.in_default.is at some

pub returns-in_default-clause-unread : goal.returns-in_default-clause-unread
returns-in_default-clause-unread g c = λ decided. (c.in_ok-head.ensures.unread (decided_head _ _ decided)).0

pub returns-in_err-found-clause-unread : goal.returns-in_err-found-clause-unread
returns-in_err-found-clause-unread g c = λ decided.
    let begins = rw c.in-Some.is at c.in_ok-head.ensures.begins in
    let same = c.in_ok-head.ensures.unread (decided_head _ _ decided) in
    let now = decided_now _ _ _ c.in-Some.head decided same.1 begins.says in
    c.in_err-found.ensures.unread now.0 ∙ same.0

pub returns-then-is_read-clause-ok : goal.returns-then-is_read-clause-ok
returns-then-is_read-clause-ok g c = λ t.
    let new = c.read_whole.new in
    held_more (blocks_at c.args.standing.now) (behind (coming_next c.in_ok-found.found new.buffer.given new.standing) new.buffer.held) _ _ _ _ _ (c.in_ok-head.ensures.octets t) (c.in_ok-found.ensures.ok t)

pub returns-then-is_read-clause-packet : goal.returns-then-is_read-clause-packet
returns-then-is_read-clause-packet g c = λ decided.
    let begins = rw c.in-Some.is at c.in_ok-head.ensures.begins in
    let same = c.in_ok-head.ensures.unread (decided_head _ _ decided) in
    let now = decided_now _ _ _ c.in-Some.head decided same.1 begins.says in
    c.in_ok-found.ensures.packet ∙ now.1

pub returns-then-is_read-clause-unread : goal.returns-then-is_read-clause-unread
returns-then-is_read-clause-unread g c = λ decided.
    let begins = rw c.in-Some.is at c.in_ok-head.ensures.begins in
    let same = c.in_ok-head.ensures.unread (decided_head _ _ decided) in
    let now = decided_now _ _ _ c.in-Some.head decided same.1 begins.says in
    c.in_ok-found.ensures.unread now.0 ∙ same.0

pub returns-in_err-read_over-clause-unread : goal.returns-in_err-read_over-clause-unread
returns-in_err-read_over-clause-unread g c = λ decided.
    let begins = rw c.in-Some.is at c.in_ok-head.ensures.begins in
    let same = c.in_ok-head.ensures.unread (decided_head _ _ decided) in
    let now = decided_now _ _ _ c.in-Some.head decided same.1 begins.says in
    absurd (false≢true (sym c.if-is_read.false ∙ c.is_read.ensures ∙ read_packet c.in-Some.head.kind now.1))

pub returns-clause-ok : goal.returns-clause-ok
returns-clause-ok g c = λ t.
    let new = c.read_over.new in
    held_more (blocks_at c.args.standing.now) (behind (blocks_at new.standing) new.buffer.held) _ _ _ _ _ (c.in_ok-head.ensures.octets t) (c.in_ok-read_over.ensures.ok t)

pub returns-clause-packet : goal.returns-clause-packet
returns-clause-packet g c = λ decided.
    let begins = rw c.in-Some.is at c.in_ok-head.ensures.begins in
    let same = c.in_ok-head.ensures.unread (decided_head _ _ decided) in
    let now = decided_now _ _ _ c.in-Some.head decided same.1 begins.says in
    sym c.if-is_read.false ∙ c.is_read.ensures ∙ read_packet c.in-Some.head.kind now.1

pub returns-clause-unread : goal.returns-clause-unread
returns-clause-unread g c = λ decided.
    let begins = rw c.in-Some.is at c.in_ok-head.ensures.begins in
    let same = c.in_ok-head.ensures.unread (decided_head _ _ decided) in
    let now = decided_now _ _ _ c.in-Some.head decided same.1 begins.says in
    absurd (false≢true (sym c.if-is_read.false ∙ c.is_read.ensures ∙ read_packet c.in-Some.head.kind now.1))
