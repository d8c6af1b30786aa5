use Rattle.std.proofs.Common.{◌≡◌, ◌≤◌, ◌<◌, ◌-◌, false, length, rules, arith, refl, sym, ◌∙◌}
use Rattle.std.proofs.lemmas.Bool.Decides.{nat_tests}
use Rattle.std.proofs.lemmas.Result.{err_from_is_err_and}
use Rattle.mud_base.specs.Numbers.{number_32}
use Rattle.pcapng_read.proofs.Steps.{least_total}
use Rattle.pcapng_read.proofs.Exits.{whole_failed, whole_cut, whole_ends, whole_refused, whole_follows}
use Rattle.pcapng_read.proofs.read.read_whole.Goals as goal

pub returns-in_err-fetch-clause-err : goal.returns-in_err-fetch-clause-err
returns-in_err-fetch-clause-err g c = λ t.
    let p = err_from_is_err_and c.from_residual.result c.from_residual.ensures.1 in
    rw (p.1, p.2) (whole_failed c.args.standing.now c.args.head _ _ _ _ c.requires.begins (c.in_err-fetch.ensures.octets t) c.in_err-fetch.ensures.short)

pub returns-then-not-branch-clause-err : goal.returns-then-not-branch-clause-err
returns-then-not-branch-clause-err g c = λ t.
    let none : c.in_ok-fetch.field-0 ≡ false = first_of (search rules, grind (arith, nat_tests)) in
    let short : length c.fetch.new.buffer.held < c.args.head.total = grind (arith, nat_tests, c.in_ok-fetch.ensures.enough) in
    whole_cut c.args.standing.now c.args.head _ _ _ _ c.requires.begins (c.in_ok-fetch.ensures.octets t) short (c.in_ok-fetch.ensures.end t none)

pub overflow_sub-head : goal.overflow_sub-head
overflow_sub-head g c = omega (arith, least_total c.args.standing.now c.args.head c.args.buffer.now.held c.requires.begins)

pub number_32-requires : goal.number_32-requires
number_32-requires g c =
    omega (arith, least_total c.args.standing.now c.args.head c.args.buffer.now.held c.requires.begins, c.split_at.ensures.front_len)

pub returns-then-number_32-head-clause-err : goal.returns-then-number_32-head-clause-err
returns-then-number_32-head-clause-err g c = λ t.
    let long : c.args.head.total ≤ length c.fetch.new.buffer.held = grind (arith, nat_tests, c.in_ok-fetch.ensures.enough) in
    whole_ends c.args.standing.now c.args.head _ _ _ _ c.requires.begins (c.in_ok-fetch.ensures.octets t) c.split_at.result.0.now long (cc)
    (λ e. c.if-number_32-head.true (c.number_32.ensures ∙ e))

pub returns-in_err-found-clause-err : goal.returns-in_err-found-clause-err
returns-in_err-found-clause-err g c = λ t.
    let long : c.args.head.total ≤ length c.fetch.new.buffer.held = grind (arith, nat_tests, c.in_ok-fetch.ensures.enough) in
    let ended : number_32 c.args.head.order (c.args.head.total - 4) c.split_at.result.0.now ≡ c.args.head.total = sym c.number_32.ensures ∙ c.if-number_32-head.false in
    let p = err_from_is_err_and c.from_residual-in_err-found.result c.from_residual-in_err-found.ensures.1 in
    rw (p.1, p.2) (whole_refused c.args.standing.now c.args.head _ _ _ _ c.requires.begins (c.in_ok-fetch.ensures.octets t) c.split_at.result.0.now long (cc) ended _ c.in_err-found.field-0.0 c.in_err-found.ensures.value)

pub returns-clause-ok : goal.returns-clause-ok
returns-clause-ok g c = λ t.
    let long : c.args.head.total ≤ length c.fetch.new.buffer.held = grind (arith, nat_tests, c.in_ok-fetch.ensures.enough) in
    let ended : number_32 c.args.head.order (c.args.head.total - 4) c.split_at.result.0.now ≡ c.args.head.total = sym c.number_32.ensures ∙ c.if-number_32-head.false in
    whole_follows c.args.standing.now c.args.head _ _ _ _ c.requires.begins (c.in_ok-fetch.ensures.octets t) c.split_at.result.0.now long (cc) ended _
    c.in_ok-found.found _ _ _ c.in_ok-found.ensures.value refl c.in_ok-found.ensures.behind c.hand_out.ensures.given c.hand_out.ensures.held
