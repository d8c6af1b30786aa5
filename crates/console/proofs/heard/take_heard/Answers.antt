use Rattle.desk_model.specs.Sessions.{command_in}
use Rattle.console_answers.specs.Bodies.Heards.{heard_body}
use Rattle.mud_desk.specs.DeskState.{session_of}
use Rattle.console.specs.Replies.{reply}
use Rattle.console.specs.Requests.{Changes, by_command}
use Rattle.console.proofs.Standing.{wanted}
use Rattle.console.proofs.heard.take_heard.Goals as goal

pub returns-in-Err-clause-reply : goal.returns-in-Err-clause-reply
returns-in-Err-clause-reply g c =
    let session = session_of c.args.desk.now.state in
    wanted (Changes session c.args.given c.args.command) session (by_command (heard_body c.args.heard.now) (command_in session c.args.given c.args.command))
    (reply c.want_memory.result c.want_memory.new.body) c.want_memory.ensures.reply
