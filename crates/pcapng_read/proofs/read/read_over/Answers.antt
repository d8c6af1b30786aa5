use Rattle.std.proofs.Common.{◌≡◌, true, false, rules, arith, sym, ap, ◌∙◌}
use Rattle.std.proofs.lemmas.Bool.Decides.{nat_tests}
use Rattle.std.proofs.lemmas.Result.{err_from_is_err_and}
use Rattle.mud_base.specs.Numbers.{number_32}
use Rattle.pcapng_read.proofs.Steps.{least_total}
use Rattle.pcapng_read.proofs.Exits.{over_failed, over_cut, over_ends, over_refused, over_follows}
use Rattle.pcapng_read.proofs.read.read_over.Goals as goal

pub pass_to_last-requires : goal.pass_to_last-requires
pass_to_last-requires g c = omega (arith, least_total c.args.standing.now c.args.head c.args.buffer.now.held c.requires.begins)

pub returns-in_err-pass_to_last-clause-err : goal.returns-in_err-pass_to_last-clause-err
returns-in_err-pass_to_last-clause-err g c = λ t.
    let p = err_from_is_err_and c.from_residual.result c.from_residual.ensures.1 in
    rw (p.1, p.2) (over_failed c.args.standing.now c.args.head _ _ _ c.requires.begins (c.in_err-pass_to_last.ensures.err t))

pub returns-then-not-branch-clause-err : goal.returns-then-not-branch-clause-err
returns-then-not-branch-clause-err g c = λ t.
    let none : c.in_ok-pass_to_last.field-0 ≡ false = first_of (search rules, grind (arith, nat_tests)) in
    over_cut c.args.standing.now c.args.head _ _ _ c.requires.begins (c.in_ok-pass_to_last.ensures.short t none) (c.in_ok-pass_to_last.ensures.end t none)

pub returns-then-number_32-head-clause-err : goal.returns-then-number_32-head-clause-err
returns-then-number_32-head-clause-err g c = λ t.
    let all : c.in_ok-pass_to_last.field-0 ≡ true = c.if-not-branch.false in
    let last = ap (number_32 c.args.head.order 0) c.held.ensures in
    over_ends c.args.standing.now c.args.head _ _ _ c.requires.begins _ (c.in_ok-pass_to_last.ensures.ok t all) (c.in_ok-pass_to_last.ensures.enough all) (λ e. c.if-number_32-head.true (c.number_32.ensures ∙ last ∙ e))

pub returns-in_err-take_block-clause-err : goal.returns-in_err-take_block-clause-err
returns-in_err-take_block-clause-err g c = λ t.
    let all = c.if-not-branch.false in
    let ended : number_32 c.args.head.order 0 c.pass_to_last.new.buffer.held ≡ c.args.head.total =
    sym (c.number_32.ensures ∙ ap (number_32 c.args.head.order 0) c.held.ensures) ∙ c.if-number_32-head.false in
    let p = err_from_is_err_and c.from_residual-in_err-take_block.result c.from_residual-in_err-take_block.ensures.1 in
    rw (p.1, p.2) (over_refused c.args.standing.now c.args.head _ _ _ c.requires.begins _ (c.in_ok-pass_to_last.ensures.ok t all) (c.in_ok-pass_to_last.ensures.enough all) ended _ c.requires.looked_into c.in_err-take_block.field-0.0 c.in_err-take_block.ensures.value)

pub returns-clause-ok : goal.returns-clause-ok
returns-clause-ok g c = λ t.
    let all = c.if-not-branch.false in
    let ended : number_32 c.args.head.order 0 c.pass_to_last.new.buffer.held ≡ c.args.head.total =
    sym (c.number_32.ensures ∙ ap (number_32 c.args.head.order 0) c.held.ensures) ∙ c.if-number_32-head.false in
    over_follows c.args.standing.now c.args.head _ _ _ c.requires.begins _ (c.in_ok-pass_to_last.ensures.ok t all) (c.in_ok-pass_to_last.ensures.enough all) ended _ c.requires.looked_into
    c.in_ok-take_block.field-0 _ _ c.in_ok-take_block.ensures.value c.in_ok-take_block.ensures.behind c.hand_out.ensures.held
