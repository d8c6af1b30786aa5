use Rattle.run_drills.specs.Commands.{round_commands}
use Rattle.run_drills.specs.Runs.{RanAll}
use Rattle.run_drills.proofs.running.run_round.Given as goal

abbrev pub invariant-loop-before : goal.invariant-loop-before
invariant-loop-before g l = RanAll g.K.Keeper (round_commands l.round l.before) l.initial.desk l.desk
