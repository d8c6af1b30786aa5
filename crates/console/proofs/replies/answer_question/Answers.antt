use Rattle.mud_desk.specs.DeskState.{session_of}
use Rattle.console_bodies.specs.declared.asked.Asked.TheVariants as asked
use Rattle.console.specs.Replies.{reply}
use Rattle.console.specs.Requests.{by_question, command_asked}
use Rattle.console.specs.Origins.{said_of}
use Rattle.console.proofs.Standing.{as_asked, told}
use Rattle.console.proofs.replies.answer_question.Goals as goal

pub returns-in-Command-clause-reply : goal.returns-in-Command-clause-reply
unfolding by_question command_asked said_of
returns-in-Command-clause-reply g c =
    as_asked (session_of c.args.desk.now.state) (session_of c.answer_command.new.desk.state) c.args.given c.args.octets.now c.args.question.action c.args.question.asked (asked.Command c.in-Command.command) (reply c.answer_command.result c.answer_command.new.body) c.in-Command.is c.answer_command.ensures.reply

pub returns-in-Heard-clause-reply : goal.returns-in-Heard-clause-reply
unfolding by_question command_asked
returns-in-Heard-clause-reply g c =
    as_asked (session_of c.args.desk.now.state) (session_of c.answer_heard.new.desk.state) c.args.given c.args.octets.now c.args.question.action c.args.question.asked (asked.Heard c.in-Heard.heard) (reply c.answer_heard.result c.answer_heard.new.body) c.in-Heard.is c.answer_heard.ensures.reply

pub returns-in-List-clause-reply : goal.returns-in-List-clause-reply
unfolding by_question command_asked
returns-in-List-clause-reply g c =
    as_asked (session_of c.args.desk.now.state) (session_of c.answer_listing.new.desk.state) c.args.given c.args.octets.now c.args.question.action c.args.question.asked (asked.List c.in-List.listing) (reply c.answer_listing.result c.answer_listing.new.body) c.in-List.is c.answer_listing.ensures.reply

pub returns-in-Judge-clause-reply : goal.returns-in-Judge-clause-reply
unfolding by_question command_asked
returns-in-Judge-clause-reply g c =
    as_asked (session_of c.args.desk.now.state) (session_of c.answer_frame.new.desk.state) c.args.given c.args.octets.now c.args.question.action c.args.question.asked asked.Judge (reply c.answer_frame.result c.answer_frame.new.body) c.in-Judge.is c.answer_frame.ensures.reply

pub returns-in-Why-clause-reply : goal.returns-in-Why-clause-reply
unfolding by_question command_asked
returns-in-Why-clause-reply g c =
    let session = session_of c.args.desk.now.state in
    let written = reply c.answer_why.result c.answer_why.new.body in
    as_asked session session c.args.given c.args.octets.now c.args.question.action c.args.question.asked asked.Why written c.in-Why.is (told c.args.octets.now session c.args.given written c.answer_why.ensures.reply)
