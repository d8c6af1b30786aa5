use Rattle.std.proofs.Common.{ℕ, sym, ◌∙◌, subst}
use Rattle.run_words.specs.declared.command.Command.{Command}
use Rattle.mud_cli.specs.NextRun.{LeavesSame}
use Rattle.mud_cli.specs.Runs.{Does, LeavesAlone, world}
use Rattle.mud_cli.proofs.NextRuns.{reads_leave, runs_leave}
use Rattle.mud_cli.proofs.Promised.{promised}
use Rattle.mud_cli.proofs.run.mud_main.Goals as goal

pub returns-clause-does : goal.returns-clause-does
returns-clause-does g c = λ command named.
    let old = world c.args.door.now c.args.spool.now c.args.clock.now in
    let new = world c.run_command-status.new.door c.run_command-status.new.spool c.run_command-status.new.clock in
    let does = λ (status : ℕ) (named : Command). Does g.K.Keeper g.D.Door g.P.Spool g.C.Clock c.args.keeper c.run_command-status.result.1 old new status named in
    promised (does c.number-2.result) c.in-Some.command command (sym c.in-Some.is ∙ c.command_of.ensures ∙ named)
    (subst (λ (status : ℕ). does status c.in-Some.command) (sym c.number-2.ensures) c.run_command-status.ensures.does)

pub returns-clause-alone : goal.returns-clause-alone
returns-clause-alone g c = λ command named.
    let old = world c.args.door.now c.args.spool.now c.args.clock.now in
    let new = world c.run_command-status.new.door c.run_command-status.new.spool c.run_command-status.new.clock in
    let alone = λ (status : ℕ) (named : Command). LeavesAlone c.args.keeper c.run_command-status.result.1 old new status named in
    promised (alone c.number-2.result) c.in-Some.command command (sym c.in-Some.is ∙ c.command_of.ensures ∙ named)
    (subst (λ (status : ℕ). alone status c.in-Some.command) (sym c.number-2.ensures) c.run_command-status.ensures.alone)

pub returns-clause-left : goal.returns-clause-left
returns-clause-left g c =
    let run = c.run_command-status in
    runs_leave g.K.Keeper c.args.keeper run.result.1 _ g.D.Door g.P.Spool g.C.Clock (world c.args.door.now c.args.spool.now c.args.clock.now)
    (world run.new.door run.new.spool run.new.clock) c.in-Some.command run.ensures.does run.ensures.alone

pub returns-clause-reads : goal.returns-clause-reads
returns-clause-reads g c = λ command named.
    let run = c.run_command-status in
    promised (LeavesSame g.K.Keeper c.args.keeper run.result.1) c.in-Some.command command (sym c.in-Some.is ∙ c.command_of.ensures ∙ named)
    (reads_leave g.K.Keeper c.args.keeper run.result.1 _ g.D.Door g.P.Spool g.C.Clock (world c.args.door.now c.args.spool.now c.args.clock.now)
    (world run.new.door run.new.spool run.new.clock) c.in-Some.command run.ensures.does run.ensures.alone)
