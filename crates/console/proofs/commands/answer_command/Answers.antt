use Rattle.std.proofs.Common.{Bool, sym, subst}
use Rattle.mud_world.specs.Causes.{Counts}
use Rattle.mud_world.specs.Kept.{faults_of}
use Rattle.mud_desk.specs.DeskState.{session_of}
use Rattle.console.specs.Replies.{reply}
use Rattle.console.specs.Origins.{said_of}
use Rattle.console.proofs.Carrying.{stands}
use Rattle.console.proofs.commands.answer_command.Goals as goal

pub returns-clause-reply : goal.returns-clause-reply
returns-clause-reply g c =
    stands (session_of c.args.desk.now.state) (session_of c.execute-answered.new.self.state) c.args.given c.args.command (said_of c.args.origin) c.execute-answered.result
    (reply c.write_reply.result c.write_reply.new.body) c.execute-answered.ensures.answer c.write_reply.ensures.reply

pub returns-clause-cause : goal.returns-clause-cause
returns-clause-cause g c =
    subst (λ (b : Bool). Counts b (faults_of g.K.Keeper c.args.desk.now.keeper) (faults_of g.K.Keeper c.execute-answered.new.self.keeper)) (sym c.write_reply.ensures.cause) c.execute-answered.ensures.cause
