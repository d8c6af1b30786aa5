use Rattle.std.proofs.Common.{ap}
use Rattle.console_answers.specs.declared.status.Status.TheVariants as status
use Rattle.console_answers.specs.Bodies.Heards.{nothing_body}
use Rattle.mud_desk.specs.DeskState.{session_of}
use Rattle.console.specs.Replies.{reply}
use Rattle.console.proofs.Standing.{raises}
use Rattle.console.proofs.heard.answer_nothing.Goals as goal

pub returns-clause-reply : goal.returns-clause-reply
returns-clause-reply g c =
    raises (session_of c.args.desk.now.state) (session_of c.raise.new.desk.state) c.args.given (reply status.Done nothing_body) (reply status.Done c.write_nothing_heard.new.self)
    (ap (reply status.Done) c.write_nothing_heard.ensures) c.raise.ensures.raised
