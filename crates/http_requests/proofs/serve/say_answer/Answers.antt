use Rattle.http_requests.proofs.Answers.{wrote_second, on_err_as}
use Rattle.http_requests.proofs.serve.say_answer.Goals as goal

pub returns-clause-part : goal.returns-clause-part
returns-clause-part g c = λ t.
    on_err_as c.say-2.result _ _
    (wrote_second c.answer.result.0.now c.answer.result.1.now _ _ _ _ c.answer.ensures (c.in_ok-say.ensures.ok t))
    (c.say-2.ensures.part t)
