use Rattle.std.proofs.Common.{Option, sym, subst}
use Rattle.desk_model.specs.declared.command.Command.{Command}
use Rattle.mud_desk.specs.DeskState.{session_of}
use Rattle.console.specs.Replies.{reply}
use Rattle.console.specs.Requests.{AllowedHeard}
use Rattle.console.proofs.Standing.{heard_asked}
use Rattle.console.proofs.heard.answer_heard.Goals as goal

pub take_heard-requires-clause-asked : goal.take_heard-requires-clause-asked
take_heard-requires-clause-asked g c = heard_asked c.args.heard.now c.in-Some.command (sym c.in-Some.ensures)

pub returns-in-Some-clause-reply : goal.returns-in-Some-clause-reply
returns-in-Some-clause-reply g c =
    subst (λ (o : Option Command). AllowedHeard (session_of c.args.desk.now.state) c.args.given c.args.heard.now o (reply c.take_heard.result c.take_heard.new.body) (session_of c.take_heard.new.desk.state))
    c.in-Some.ensures c.take_heard.ensures.reply

pub returns-in-None-clause-reply : goal.returns-in-None-clause-reply
returns-in-None-clause-reply g c =
    subst (λ (o : Option Command). AllowedHeard (session_of c.args.desk.now.state) c.args.given c.args.heard.now o (reply c.answer_nothing.result c.answer_nothing.new.body) (session_of c.answer_nothing.new.desk.state))
    c.in-None.ensures c.answer_nothing.ensures.reply
