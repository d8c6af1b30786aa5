use Rattle.std.proofs.Common.{ap}
use Rattle.console_answers.specs.declared.status.Status.TheVariants as status
use Rattle.mud_desk.specs.DeskState.{session_of}
use Rattle.console.specs.Replies.{reply}
use Rattle.console.proofs.Standing.{judged_so, judged_not, noted}
use Rattle.console.proofs.packets.answer_frame.Goals as goal

pub returns-in-Ok-clause-reply : goal.returns-in-Ok-clause-reply
returns-in-Ok-clause-reply g c =
    judged_so (session_of c.args.desk.now.state) (session_of c.judge.new.desk.state) c.args.given c.args.frame.now (reply status.Done c.write_verdict.new.self) c.in-Ok.verdict
    c.in-Ok.ensures.judged (ap (reply status.Done) c.write_verdict.ensures)

pub returns-in-Err-clause-reply : goal.returns-in-Err-clause-reply
returns-in-Err-clause-reply g c =
    judged_not (session_of c.args.desk.now.state) (session_of c.judge.new.desk.state) c.args.given c.args.frame.now (reply c.want_memory.result c.want_memory.new.body) _
    c.in-Err.ensures.judged c.want_memory.ensures.reply

pub returns-in-Err-clause-wanted : goal.returns-in-Err-clause-wanted
returns-in-Err-clause-wanted g c = λ status.
    noted (session_of c.args.desk.now.state) (session_of c.judge.new.desk.state) c.args.given c.args.frame.now _ c.in-Err.ensures.judged
