use Rattle.std.proofs.Common.{◌++◌}
use Rattle.console_answers.specs.Heads.{shown}
use Rattle.mud_desk.specs.DeskState.{session_of}
use Rattle.console.proofs.Answered.{answered, octets_are}
use Rattle.console.proofs.answer.answer_request.Goals as goal

pub returns-clause-answer : goal.returns-clause-answer
returns-clause-answer g c = λ from r parts.
    let reply = c.reply_to-reply.result in
    let body = c.reply_to-reply.new.body in
    answered (session_of c.args.desk.now.state) (session_of c.reply_to-reply.new.desk.state) c.args.given r c.args.closes (record { status = reply.status; allow = reply.allow; body = body })
    (c.write_head.new.head ++ shown c.is_head-by_head.result body) c.args.request.now.method.now parts.method
    (octets_are c.write_head.new.head body c.body_len-len.result c.is_head-by_head.result c.args.closes reply.status reply.allow c.args.request.now.method.now c.write_head.ensures c.body_len-len.ensures c.is_head-by_head.ensures)
    (c.reply_to-reply.ensures.wanted from r parts) (c.reply_to-reply.ensures.reply from r parts)
