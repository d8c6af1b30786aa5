use Rattle.std.proofs.Common.{◌≡◌, ◌≤◌, ◌<◌, false, length, rules, arith}
use Rattle.std.proofs.lemmas.Bool.Decides.{nat_tests}
use Rattle.std.proofs.lemmas.Result.{err_from_is_err_and}
use Rattle.pcap_read.proofs.Exits.{body_failed, body_cut, body_follows}
use Rattle.pcap_read.proofs.read.read_packet.Goals as goal

pub returns-in_err-fetch-clause-err : goal.returns-in_err-fetch-clause-err
returns-in_err-fetch-clause-err g c = λ t.
    let p = err_from_is_err_and c.from_residual-in_err-fetch.result c.from_residual-in_err-fetch.ensures.1 in
    let before = rw c.in-Some.is at (c.in_ok-head.ensures.ok t) in
    rw (p.1, p.2) (body_failed c.args.cursor c.in-Some.head _ _ _ _ _ _ before (c.in_err-fetch.ensures.octets t) c.in_err-fetch.ensures.short)

pub returns-then-not-branch-clause-err : goal.returns-then-not-branch-clause-err
returns-then-not-branch-clause-err g c = λ t.
    let none : c.in_ok-fetch.field-0 ≡ false = first_of (search rules, grind (arith, nat_tests)) in
    let short : length c.fetch.new.buffer.held < c.in-Some.head.len = grind (arith, nat_tests, c.in_ok-fetch.ensures.enough) in
    let before = rw c.in-Some.is at (c.in_ok-head.ensures.ok t) in
    body_cut c.args.cursor c.in-Some.head _ _ _ _ _ _ before (c.in_ok-fetch.ensures.octets t) short (c.in_ok-fetch.ensures.end t none)

pub returns-clause-ok : goal.returns-clause-ok
returns-clause-ok g c = λ t.
    let long : c.in-Some.head.len ≤ length c.fetch.new.buffer.held = grind (arith, nat_tests, c.in_ok-fetch.ensures.enough) in
    let before = rw c.in-Some.is at (c.in_ok-head.ensures.ok t) in
    body_follows c.args.cursor c.in-Some.head _ _ _ _ _ _ before (c.in_ok-fetch.ensures.octets t) c.hand_out.new.self.given c.hand_out.new.self.held long c.hand_out.ensures.given c.hand_out.ensures.held
