-- A reply is answered.
use Rattle.std.proofs.Common.{◌≡◌, ℕ, Bool, List, refl, sym, ap, ◌∙◌, subst, inl, inr}
use Rattle.std.specs.Prelude.{Result, Ok, Err, Option, None, length, max, ◌++◌}
use Rattle.console_routes.specs.declared.route.Route.{Route}
use Rattle.console_answers.specs.Heads.{head_of, shown, answer_of}
use Rattle.http_requests.specs.Requests.{Request}
use Rattle.http_requests.specs.declared.fault.MomentFrom.{MomentFrom}
use Rattle.http_requests.specs.declared.parts.RequestParts.{RequestParts}
use Rattle.http_requests.specs.Parts.{AreParts}
use Rattle.console_answers.specs.declared.status.Status.{Status}
use Rattle.console_answers.specs.declared.status.Status.TheVariants as status
use Rattle.desk_model.specs.Sessions.{Session, later}
use Rattle.console_routes.specs.Routes.{route_of}
use Rattle.mud_desk.specs.DeskState.{DeskState, session_of}
use Rattle.console.specs.declared.question.Question.{Question}
use Rattle.console.specs.declared.question.NoQuestion.{NoQuestion}
use Rattle.console.specs.Replies.{Reply, reply, replied, IsOrWanted, IsOrFailed}
use Rattle.console.specs.Asks.{question_of, refusal_of}
use Rattle.console.specs.Requests.{question_in, reply_in, AllowedQuestion, AllowedResponse, NeedsMemory}
use Rattle.http_requests.specs.Framing.{is_head}
use Rattle.console.specs.Answers.{octets_of, AllowedAnswer}
use Rattle.mud_base.specs.declared.refusal.Refusal.{Refusal}
use Rattle.mud_base.specs.declared.refusal.Refusal.TheVariants.{Memory, Broken}
use Rattle.mud_base.specs.Readings.{Fails}
use Rattle.console.specs.Refused.{IsRefusalOf}
use Rattle.console.specs.declared.refusals.ReplyHead.{ReplyHead}
use Rattle.console.proofs.Paths.{route_again}
use Rattle.console.proofs.Replying.{told_of}
use Rattle.console.proofs.Parts.{by_route, by_result, CallsKeeper}

-- what the parts of a request ask for is what the request asks for
pub question_here : (from : MomentFrom) (r : Request) (parts : RequestParts) (now : ℕ) → AreParts from r parts → question_of parts.method.now parts.path.now parts.body.now now ≡ question_of r.head.method r.head.target r.body now
unfolding question_of
question_here from r parts now are =
    (λ i. by_route (route_of (are.path i)) (are.method i) (are.body i) now)
    ∙ ap (λ route. by_route route r.head.method r.body now) (route_again r.head)

-- what stands for the question stands for the request
module _ (session after : Session) (given : ℕ) (r : Request) (reply : Reply) where
  asked : (question : Question) → question_in session given r ≡ Ok question → AllowedQuestion session given r.body question.action question.asked reply after → AllowedResponse session given r reply after
  unfolding reply_in
  asked question is stands =
      subst (λ (q : Result Question NoQuestion). IsOrFailed (CallsKeeper session given q) session (by_result session given r.body q) reply after) (sym is) stands

  refused : (nothing : NoQuestion) → question_in session given r ≡ Err nothing → IsOrWanted (refusal_of nothing) reply → after ≡ session → AllowedResponse session given r reply after
  unfolding reply_in
  refused nothing is or same =
      subst (λ (q : Result Question NoQuestion). IsOrFailed (CallsKeeper session given q) session (by_result session given r.body q) reply after) (sym is)
      (elim or.one [ inl said ↦ record { one = inl (inl (λ i. replied (sym said i) (sym same i))) } | inr want ↦ record { one = inl (inr (want, same)) } ])

-- a reply is answered by its octets
pub answered : (session after : Session) (given : ℕ) (r : Request) (closes : Bool) (reply : Reply) (octets method : List ℕ) → method ≡ r.head.method → octets ≡ octets_of method closes reply
    → (reply.status ≡ status.NoStorage → NeedsMemory session given r) → AllowedResponse session given r reply after → AllowedAnswer session given r closes reply.status octets after
answered session after given r closes reply octets method is octets_are wanted may =
    record { reply = reply; may = may; status_is = refl; octets_are = octets_are ∙ ap (λ (m : List ℕ). octets_of m closes reply) is; wanted = wanted }

-- the octets in two pieces
pub octets_are : (head body : List ℕ) (len : ℕ) (by_head closes : Bool) (status : Status) (allow : Option Route) (method : List ℕ) → head ≡ head_of status allow len closes → len ≡ length body → by_head ≡ is_head method
    → head ++ shown by_head body ≡ octets_of method closes (record { status = status; allow = allow; body = body })
unfolding octets_of answer_of
octets_are head body len by_head closes status allow method head_is len_is is =
    λ i. (head_is ∙ ap (λ n. head_of status allow n closes) len_is) i ++ shown (is i) body

-- ---- What stands for a request, by the question that its parts ask

module _ (from : MomentFrom) (r : Request) (parts : RequestParts) (are : AreParts from r parts) (before : DeskState) (given now : ℕ) (is : now ≡ max before.moment given) where
  -- the question is taken at the later moment
  asked_at : question_in (session_of before) given r ≡ question_of parts.method.now parts.path.now parts.body.now now
  unfolding question_in session_of later
  asked_at = sym (question_here from r parts now are ∙ ap (λ n. question_of r.head.method r.head.target r.body n) is)

  pub stands_asked : (after : Session) (reply : Reply) (question : Question) → question_of parts.method.now parts.path.now parts.body.now now ≡ Ok question
      → AllowedQuestion (session_of before) given parts.body.now question.action question.asked reply after → AllowedResponse (session_of before) given r reply after
  stands_asked after reply question says may =
      asked (session_of before) after given r reply question (asked_at ∙ says)
      (subst (λ (body : List ℕ). AllowedQuestion (session_of before) given body question.action question.asked reply after) are.body may)

  pub stands_unasked : (reply : Reply) (unasked : Refusal NoQuestion) → Fails unasked (question_of parts.method.now parts.path.now parts.body.now now) → IsRefusalOf unasked reply
      → AllowedResponse (session_of before) given r reply (session_of before)
  stands_unasked reply Memory says is_refusal = record { one = inl (inr (is_refusal, refl)) }
  stands_unasked reply (Broken nothing) says is_refusal = refused (session_of before) (session_of before) given r reply nothing (asked_at ∙ says) (told_of nothing reply is_refusal) refl

-- a reply that names no methods
pub plain_is : (head : ReplyHead) (status : Status) (body : List ℕ) → head ≡ record { status = status; allow = None } → ◌≡◌ {A = Reply} (record { status = head.status; allow = head.allow; body = body }) (reply status body)
unfolding reply
plain_is head status body is = ap (λ (h : ReplyHead). record { status = h.status; allow = h.allow; body = body }) is
