use Rattle.std.proofs.Common.{arith, sym, ap, ◌∙◌}
use Rattle.std.proofs.lemmas.Result.{err_from_is_err_and}
use Rattle.dns_snoop.specs.Steps.{chain_answer}
use Rattle.dns_snoop.proofs.JumpLaws.{jump_to}
use Rattle.dns_snoop.proofs.Walks.{chain_err_here, chain_ok_here}
use Rattle.dns_snoop.proofs.name.follow.Goals as goal

pub read_run-requires-clause-start : goal.read_run-requires-clause-start
read_run-requires-clause-start c =
    let jump = jump_to c.args.message.now c.args.jumps.now c.in-Pointer.target c.behind_jump-target.result c.requires.jumps c.behind_jump-target.ensures in
    omega (arith, jump.before, c.if-target-run.false, c.runs.invariant.start)

pub runs-smaller : goal.runs-smaller
runs-smaller c =
    let jump = jump_to c.args.message.now c.args.jumps.now c.in-Pointer.target c.behind_jump-target.result c.requires.jumps c.behind_jump-target.ensures in
    omega (arith, jump.before, c.if-target-run.false)

pub returns-in_err-last-clause-read : goal.returns-in_err-last-clause-read
returns-in_err-last-clause-read c =
    let jump = jump_to c.args.message.now c.args.jumps.now c.in-Pointer.target c.behind_jump-target.result c.requires.jumps c.behind_jump-target.ensures in
    let p = err_from_is_err_and c.from_residual.result c.from_residual.ensures.1 in
    rw (p.1, p.2) (chain_err_here c.runs.text c.runs.run c.in-Pointer.at c.behind_jump-target.result c.args.message.now _ _ (omega (arith, c.if-target-run.false, jump.before))
    c.in_err-last.ensures.read (ap (chain_answer c.runs.text) (sym (jump.same c.runs.run c.in-Pointer.at (omega (arith, c.if-target-run.false)))) ∙ rw (← c.in-Pointer.is) c.runs.invariant.same))

pub runs-preserved : goal.runs-preserved
runs-preserved c =
    let jump = jump_to c.args.message.now c.args.jumps.now c.in-Pointer.target c.behind_jump-target.result c.requires.jumps c.behind_jump-target.ensures in
    record {
      same = chain_ok_here c.runs.text c.runs.run c.in-Pointer.at c.behind_jump-target.result c.args.message.now (record { text = c.read_run.new.text; end = c.in_ok-last.last }) _ (omega (arith, c.if-target-run.false, jump.before))
          c.in_ok-last.ensures.read (ap (chain_answer c.runs.text) (sym (jump.same c.runs.run c.in-Pointer.at (omega (arith, c.if-target-run.false)))) ∙ rw (← c.in-Pointer.is) c.runs.invariant.same);
      start = omega (arith, c.if-target-run.false, jump.before, c.runs.invariant.start);
      short = c.in_ok-last.ensures.short;
    }
