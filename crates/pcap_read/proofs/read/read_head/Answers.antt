use Rattle.std.proofs.Common.{◌≡◌, ◌≤◌, ◌<◌, false, length, rules, arith}
use Rattle.std.proofs.lemmas.Bool.Decides.{nat_tests}
use Rattle.std.proofs.lemmas.Result.{err_from_is_err_and}
use Rattle.pcap_read.proofs.Exits.{head_failed, head_ends_many, head_ends_cut, head_ends_long, head_follows, ready_head}
use Rattle.pcap_read.proofs.Steps.{decided_enough}
use Rattle.pcap_read.proofs.read.read_head.Goals as goal

pub returns-in_err-is_enough-clause-err : goal.returns-in_err-is_enough-clause-err
returns-in_err-is_enough-clause-err g c = λ t.
    let p = err_from_is_err_and c.from_residual.result c.from_residual.ensures.1 in
    let short : length c.fetch.new.buffer.held < 16 = omega (arith, c.in_err-is_enough.ensures.short, c.wanted_behind-wanted.ensures.most) in
    rw (p.1, p.2) (head_failed _ _ _ _ (c.in_err-is_enough.ensures.octets t) c.args.cursor short (λ beyond. omega (arith, c.in_err-is_enough.ensures.short, c.wanted_behind-wanted.ensures.beyond beyond)))

pub returns-then-cursor-ge-MOST_PACKETS-clause-err : goal.returns-then-cursor-ge-MOST_PACKETS-clause-err
returns-then-cursor-ge-MOST_PACKETS-clause-err g c = λ t.
    let some : 0 < length c.fetch.new.buffer.held = grind (arith, nat_tests) in
    head_ends_many _ _ _ _ (c.in_ok-is_enough.ensures.octets t) c.args.cursor some (omega arith)

pub returns-then-not-is_enough-clause-err : goal.returns-then-not-is_enough-clause-err
returns-then-not-is_enough-clause-err g c = λ t.
    let some : 0 < length c.fetch.new.buffer.held = grind (arith, nat_tests) in
    let none : c.in_ok-is_enough.is_enough ≡ false = first_of (search rules, grind (arith, nat_tests)) in
    let short : length c.fetch.new.buffer.held < 16 = grind (arith, nat_tests, c.in_ok-is_enough.ensures.enough) in
    head_ends_cut _ _ _ _ (c.in_ok-is_enough.ensures.octets t) c.args.cursor some short (omega arith) (c.in_ok-is_enough.ensures.end t none)

pub returns-then-head-gt-MOST_OCTETS-clause-err : goal.returns-then-head-gt-MOST_OCTETS-clause-err
returns-then-head-gt-MOST_OCTETS-clause-err g c = λ t.
    let long : 16 ≤ length c.fetch.new.buffer.held = grind (arith, nat_tests, c.in_ok-is_enough.ensures.enough) in
    head_ends_long _ _ _ _ (c.in_ok-is_enough.ensures.octets t) c.args.cursor c.split_at.result.0.now c.head_in-head.result.len long (omega arith) (cc) c.head_in-head.ensures.len (omega arith)

pub returns-clause-ok : goal.returns-clause-ok
returns-clause-ok g c = λ t.
    let long : 16 ≤ length c.fetch.new.buffer.held = grind (arith, nat_tests, c.in_ok-is_enough.ensures.enough) in
    head_follows _ _ _ _ (c.in_ok-is_enough.ensures.octets t) c.args.cursor c.split_at.result.0.now c.hand_out.new.self.held c.head_in-head.result long (omega arith) (cc) c.head_in-head.ensures.seconds c.head_in-head.ensures.len (omega arith) c.hand_out.ensures.held

pub returns-in_err-is_enough-clause-unread : goal.returns-in_err-is_enough-clause-unread
returns-in_err-is_enough-clause-unread g c = λ decided.
    (c.in_err-is_enough.ensures.untouched (decided_enough c.args.cursor.order c.args.cursor.count c.args.buffer.now.held c.wanted_behind-wanted.result c.wanted_behind-wanted.ensures.head c.wanted_behind-wanted.ensures.beyond decided)).0

pub returns-then-is_empty-clause-unread : goal.returns-then-is_empty-clause-unread
returns-then-is_empty-clause-unread g c = λ decided.
    (c.in_ok-is_enough.ensures.untouched (decided_enough c.args.cursor.order c.args.cursor.count c.args.buffer.now.held c.wanted_behind-wanted.result c.wanted_behind-wanted.ensures.head c.wanted_behind-wanted.ensures.beyond decided)).0

pub returns-then-cursor-ge-MOST_PACKETS-clause-unread : goal.returns-then-cursor-ge-MOST_PACKETS-clause-unread
returns-then-cursor-ge-MOST_PACKETS-clause-unread g c = λ decided.
    (c.in_ok-is_enough.ensures.untouched (decided_enough c.args.cursor.order c.args.cursor.count c.args.buffer.now.held c.wanted_behind-wanted.result c.wanted_behind-wanted.ensures.head c.wanted_behind-wanted.ensures.beyond decided)).0

pub returns-then-not-is_enough-clause-unread : goal.returns-then-not-is_enough-clause-unread
returns-then-not-is_enough-clause-unread g c = λ decided.
    (c.in_ok-is_enough.ensures.untouched (decided_enough c.args.cursor.order c.args.cursor.count c.args.buffer.now.held c.wanted_behind-wanted.result c.wanted_behind-wanted.ensures.head c.wanted_behind-wanted.ensures.beyond decided)).0

pub returns-then-head-gt-MOST_OCTETS-clause-unread : goal.returns-then-head-gt-MOST_OCTETS-clause-unread
returns-then-head-gt-MOST_OCTETS-clause-unread g c = λ decided.
    (c.in_ok-is_enough.ensures.untouched (decided_enough c.args.cursor.order c.args.cursor.count c.args.buffer.now.held c.wanted_behind-wanted.result c.wanted_behind-wanted.ensures.head c.wanted_behind-wanted.ensures.beyond decided)).0

pub returns-clause-unread : goal.returns-clause-unread
returns-clause-unread g c = λ decided.
    (c.in_ok-is_enough.ensures.untouched (decided_enough c.args.cursor.order c.args.cursor.count c.args.buffer.now.held c.wanted_behind-wanted.result c.wanted_behind-wanted.ensures.head c.wanted_behind-wanted.ensures.beyond decided)).0

pub returns-clause-ready : goal.returns-clause-ready
returns-clause-ready g c = λ decided.
    let same = (c.in_ok-is_enough.ensures.untouched (decided_enough c.args.cursor.order c.args.cursor.count c.args.buffer.now.held c.wanted_behind-wanted.result c.wanted_behind-wanted.ensures.head c.wanted_behind-wanted.ensures.beyond decided)).1 in
    let long : 16 ≤ length c.fetch.new.buffer.held = grind (arith, nat_tests, c.in_ok-is_enough.ensures.enough) in
    ready_head c.args.cursor c.args.buffer.now.held c.fetch.new.buffer.held c.split_at.result.0.now c.hand_out.new.self.held c.head_in-head.result.len same (omega arith) long (cc) c.head_in-head.ensures.len (omega arith) c.hand_out.ensures.held decided
