use Rattle.std.proofs.Common.{Err, ap, subst, sym, ◌∙◌}
use Rattle.std.specs.Prelude.{max}
use Rattle.mud_desk.specs.DeskState.{session_of}
use Rattle.console.specs.Replies.{Reply, reply}
use Rattle.console.specs.Requests.{AllowedResponse}
use Rattle.console.specs.declared.refusals.ReplyHead.{ReplyHead}
use Rattle.console.proofs.Answered.{plain_is, stands_asked, stands_unasked}
use Rattle.console.proofs.Wants.{wants_by_question, wants_by_refusal}
use Rattle.console.proofs.replies.reply_to.Goals as goal

pub returns-in-Ok-clause-reply : goal.returns-in-Ok-clause-reply
returns-in-Ok-clause-reply g c = λ from r parts.
    let before = c.args.desk.now.state in
    let after = session_of c.answer_question.new.desk.state in
    let said = reply c.answer_question.result c.answer_question.new.body in
    subst (λ (w : Reply). AllowedResponse (session_of before) c.args.given r w after) (sym (plain_is c.plain.result c.answer_question.result c.answer_question.new.body c.plain.ensures))
    (stands_asked from r c.args.request.now parts before c.args.given c.later-now.result (c.later-now.ensures ∙ ap (λ m. max m c.args.given) c.moment.ensures) after said
    c.in-Ok.question c.in-Ok.ensures.question c.answer_question.ensures.reply)

pub returns-in-Err-clause-reply : goal.returns-in-Err-clause-reply
returns-in-Err-clause-reply g c = λ from r parts.
    stands_unasked from r c.args.request.now parts c.args.desk.now.state c.args.given c.later-now.result (c.later-now.ensures ∙ ap (λ m. max m c.args.given) c.moment.ensures)
    (record { status = c.refuse_unasked.result.status; allow = c.refuse_unasked.result.allow; body = c.refuse_unasked.new.body }) c.in-Err.unasked c.in-Err.ensures.question c.refuse_unasked.ensures.reply

pub returns-in-Ok-clause-wanted : goal.returns-in-Ok-clause-wanted
returns-in-Ok-clause-wanted g c = λ from r parts status.
    wants_by_question from r c.args.request.now parts (session_of c.args.desk.now.state) c.args.given c.later-now.result c.in-Ok.question c.in-Ok.ensures.question
    (c.answer_question.ensures.wanted (sym (ap (λ (head : ReplyHead). head.status) c.plain.ensures) ∙ status))

pub returns-in-Err-clause-wanted : goal.returns-in-Err-clause-wanted
returns-in-Err-clause-wanted g c = λ from r parts status.
    wants_by_refusal from r c.args.request.now parts (session_of c.args.desk.now.state) c.args.given c.later-now.result c.in-Err.unasked
    (record { status = c.refuse_unasked.result.status; allow = c.refuse_unasked.result.allow; body = c.refuse_unasked.new.body })
    c.in-Err.ensures.question (λ memory. c.in-Err.ensures.wanted (ap Err memory)) c.refuse_unasked.ensures.reply status
