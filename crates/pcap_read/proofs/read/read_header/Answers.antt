use Rattle.std.proofs.Common.{◌≡◌, ◌≤◌, ◌<◌, false, length, rules, arith}
use Rattle.std.proofs.lemmas.Bool.Decides.{nat_tests}
use Rattle.std.proofs.lemmas.Result.{err_from_is_err_and}
use Rattle.pcap_read.proofs.Exits.{header_failed, header_cut, header_ends, header_follows}
use Rattle.pcap_read.proofs.read.read_header.Goals as goal

pub returns-in_err-fetch-clause-err : goal.returns-in_err-fetch-clause-err
returns-in_err-fetch-clause-err g c = λ t.
    let p = err_from_is_err_and c.from_residual.result c.from_residual.ensures.1 in
    rw (p.1, p.2) (header_failed _ _ _ _ (c.in_err-fetch.ensures.octets t) c.in_err-fetch.ensures.short)

pub returns-then-not-branch-clause-err : goal.returns-then-not-branch-clause-err
returns-then-not-branch-clause-err g c = λ t.
    let none : c.in_ok-fetch.field-0 ≡ false = first_of (search rules, grind (arith, nat_tests)) in
    let short : length c.fetch.new.buffer.held < 24 = grind (arith, nat_tests, c.in_ok-fetch.ensures.enough) in
    header_cut _ _ _ _ (c.in_ok-fetch.ensures.octets t) short (c.in_ok-fetch.ensures.end t none)

pub returns-in_err-order-clause-err : goal.returns-in_err-order-clause-err
returns-in_err-order-clause-err g c = λ t.
    let long : 24 ≤ length c.fetch.new.buffer.held = grind (arith, nat_tests, c.in_ok-fetch.ensures.enough) in
    let p = err_from_is_err_and c.from_residual-in_err-order.result c.from_residual-in_err-order.ensures.1 in
    rw (p.1, p.2) (header_ends _ _ _ _ (c.in_ok-fetch.ensures.octets t) c.in_err-order.field-0.0 c.split_at.result.0.now long (cc) c.in_err-order.ensures.value)

pub returns-clause-ok : goal.returns-clause-ok
returns-clause-ok g c = λ t.
    let long : 24 ≤ length c.fetch.new.buffer.held = grind (arith, nat_tests, c.in_ok-fetch.ensures.enough) in
    header_follows _ _ _ _ (c.in_ok-fetch.ensures.octets t) c.in_ok-order.order c.split_at.result.0.now c.hand_out.new.self.held long (cc) c.in_ok-order.ensures.value c.hand_out.ensures.held
