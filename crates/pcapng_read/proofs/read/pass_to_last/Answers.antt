use Rattle.std.proofs.Common.{◌<◌, length, arith}
use Rattle.std.proofs.lemmas.Bool.Decides.{nat_tests}
use Rattle.std.proofs.lemmas.Result.{err_from_is_err_and}
use Rattle.pcapng_read.proofs.Passing.{passes_fetch, passes_last, passes_short}
use Rattle.pcapng_read.proofs.read.pass_to_last.Goals as goal

pub returns-in_err-is_enough-clause-err : goal.returns-in_err-is_enough-clause-err
returns-in_err-is_enough-clause-err g c = λ t.
    let passed = passes_last _ c.args.total _ _ _ _ (c.in_ok-pass.ensures.ok t c.if-not-branch.false) (omega arith) in
    let p = err_from_is_err_and c.from_residual-in_err-is_enough.result c.from_residual-in_err-is_enough.ensures.1 in
    rw p.1 (passes_short _ _ _ _ _ _ (passes_fetch _ _ _ _ _ _ _ _ passed (c.in_err-is_enough.ensures.octets t)) c.in_err-is_enough.ensures.short)

pub returns-clause-ok : goal.returns-clause-ok
returns-clause-ok g c = λ t _.
    let passed = passes_last _ c.args.total _ _ _ _ (c.in_ok-pass.ensures.ok t c.if-not-branch.false) (omega arith) in
    passes_fetch _ _ _ _ _ _ _ _ passed (c.in_ok-is_enough.ensures.octets t)

pub returns-clause-short : goal.returns-clause-short
returns-clause-short g c = λ t none.
    let passed = passes_last _ c.args.total _ _ _ _ (c.in_ok-pass.ensures.ok t c.if-not-branch.false) (omega arith) in
    let short : length c.fetch.new.buffer.held < 4 = grind (arith, nat_tests, none, c.in_ok-is_enough.ensures.enough) in
    passes_short _ _ _ _ _ _ (passes_fetch _ _ _ _ _ _ _ _ passed (c.in_ok-is_enough.ensures.octets t)) short
