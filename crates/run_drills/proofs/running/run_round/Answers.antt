use Rattle.std.proofs.Common.{◌+◌}
use Rattle.std.proofs.lemmas.Result.{err_from_is_err_and}
use Rattle.run_drills.specs.Commands.{commands_of, round_commands}
use Rattle.run_drills.proofs.Rounds.{round_push, round_rest, round_split}
use Rattle.run_drills.proofs.RanLaws.{all_of_none, both_part, both_ran}
use Rattle.run_drills.proofs.running.run_round.Goals as goal

pub loop-before-init : goal.loop-before-init
unfolding round_commands
loop-before-init g c = all_of_none g.K.Keeper c.args.desk.now c.requires.kept

pub loop-before-preserved : goal.loop-before-preserved
loop-before-preserved g c =
    let n = c.loop-before.before in
    both_ran g.K.Keeper c.args.desk.now c.loop-before.desk (round_commands c.args.round n) c.loop-before.invariant
    c.run_for.new.desk (commands_of c.args.round (n + 1)) (round_commands c.args.round (n + 1)) (round_push c.args.round n) c.in_ok-run_for.ensures.all

pub returns-in_err-run_for-clause-part : goal.returns-in_err-run_for-clause-part
returns-in_err-run_for-clause-part g c =
    let p = err_from_is_err_and c.from_residual.result c.from_residual.ensures.1 in
    let n = c.loop-before.before in
    rw (p.1, p.2) (both_part g.K.Keeper c.args.desk.now c.loop-before.desk (round_commands c.args.round n) c.loop-before.invariant
    c.run_for.new.desk (commands_of c.args.round (n + 1)) (round_commands c.args.round (n + 1)) (round_push c.args.round n)
    (round_rest c.args.round n c.args.count) (round_commands c.args.round c.args.count) (round_split c.args.round n c.args.count c.loop-before-test.true) _ c.in_err-run_for.ensures.part)
