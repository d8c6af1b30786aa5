-- Where memory may be wanted.
use Rattle.std.proofs.lemmas.Bool.{false≢true}
use Rattle.std.proofs.Common.{◌≡◌, ℕ, List, Option, Some, None, Result, Ok, Err, true, refl, sym, ap, ◌∙◌, subst}
use Rattle.std.specs.Prelude.{option_and_then}
use Rattle.console_answers.specs.declared.status.Status.{Status}
use Rattle.console_answers.specs.declared.status.Status.TheVariants.{MethodNotAllowed, NoStorage, NotFound}
use Rattle.http_requests.specs.Requests.{Request}
use Rattle.http_requests.specs.declared.fault.MomentFrom.{MomentFrom}
use Rattle.http_requests.specs.declared.parts.RequestParts.{RequestParts}
use Rattle.http_requests.specs.Parts.{AreParts}
use Rattle.console_routes.specs.declared.route.Route.{Route}
use Rattle.console_routes.specs.declared.action.Action.{Action}
use Rattle.console_routes.specs.declared.action.Action.TheVariants.{HearDhcp, HearLldp, List as ListRows, State, Import, Judge, Why}
use Rattle.console_routes.specs.Routes.{route_of}
use Rattle.console_routes.specs.Actions.{action_of, method_of}
use Rattle.console_bodies.specs.declared.fault.BodyFault.{BodyFault}
use Rattle.desk_model.specs.Sessions.{Session}
use Rattle.mud_base.specs.declared.refusal.Refusal.{Refusal}
use Rattle.mud_base.specs.declared.refusal.Refusal.TheVariants.{Memory, Broken}
use Rattle.mud_base.specs.Readings.{Fails}
use Rattle.console_bodies.specs.Bodies.{body_of, takes_memory}
use Rattle.console_bodies.specs.declared.asked.Asked.{Asked}
use Rattle.console.specs.declared.question.Question.{Question}
use Rattle.console.specs.declared.question.NoQuestion.{NoQuestion}
use Rattle.console.specs.declared.question.NoQuestion.TheVariants.{NoRoute, NoMethod, BadBody}
use Rattle.console.specs.Asks.{action_at, reads_with_memory, question_of, by_action, by_body}
use Rattle.console.specs.Replies.{Reply, reply, no_route, no_method}
use Rattle.console.specs.Requests.{NeedsMemory}
use Rattle.console.specs.Refused.{IsRefusalOf, AskedNeedsMemory}
use Rattle.console.proofs.Paths.{route_again}
use Rattle.console.proofs.Parts.{by_route, ActionNeedsMemory}

status_of_no_route : no_route.status ≡ NotFound
unfolding no_route reply
status_of_no_route = refl

status_of_no_method : (route : Route) → (no_method route).status ≡ MethodNotAllowed
unfolding no_method
status_of_no_method route = refl

-- another status than that of want of memory
not_wanted : {A : Type 0} (other : Status) (given : Reply) → given.status ≡ other → given.status ≡ NoStorage → (other ≡ NoStorage → A) → A
not_wanted other given is status apart = apart (sym is ∙ status)

abbrev action_by : List ℕ → Route → Option Action
action_by method route = option_and_then (action_of route) (method_of method)

module _ (session : Session) (given : ℕ) (octets : List ℕ) where
  -- memory was wanted to read the body
  reading : (action : Option Action) → reads_with_memory action ≡ true → ActionNeedsMemory session given octets action
  unfolding takes_memory
  reading None takes = absurd (false≢true takes)
  reading (Some HearDhcp) takes = tt
  reading (Some HearLldp) takes = tt
  reading (Some (ListRows listing)) takes = tt
  reading (Some (State statement)) takes = tt
  reading (Some Import) takes = tt
  reading (Some Judge) takes = absurd (false≢true takes)
  reading (Some Why) takes = tt

  -- a question was answered, whose body was read
  asked_by_body : (action : Action) (body : List ℕ) (now : ℕ) (question : Question) → by_body action (body_of action body now) ≡ Ok question
      → AskedNeedsMemory session given octets question.asked → ActionNeedsMemory session given octets (Some action)
  unfolding by_body body_of
  asked_by_body HearDhcp body now question is may = tt
  asked_by_body HearLldp body now question is may = tt
  asked_by_body (ListRows listing) body now question is may = tt
  asked_by_body (State statement) body now question is may = tt
  asked_by_body Import body now question is may = tt
  asked_by_body Judge body now question is may = subst (λ (a : Asked). AskedNeedsMemory session given octets a) (sym (asked_same is)) may
    where
      asked_same : {a b : Question} → ◌≡◌ {A = Result Question NoQuestion} (Ok a) (Ok b) → a.asked ≡ b.asked
      asked_same is = cc
  asked_by_body Why body now question is may = tt

  asked_by : (method body : List ℕ) (now : ℕ) (route : Route) (action : Option Action) (question : Question) → by_action route action body now ≡ Ok question
      → AskedNeedsMemory session given octets question.asked → ActionNeedsMemory session given octets action
  unfolding by_action
  asked_by method body now route None question is may = absurd (cc)
  asked_by method body now route (Some action) question is may = asked_by_body action body now question is may

  asked_at : (method body : List ℕ) (now : ℕ) (route : Option Route) (question : Question) → by_route route method body now ≡ Ok question
      → AskedNeedsMemory session given octets question.asked → ActionNeedsMemory session given octets (option_and_then (action_by method) route)
  asked_at method body now None question is may = absurd (cc)
  asked_at method body now (Some route) question is may = asked_by method body now route (action_by method route) question is may

  -- it was told what is wrong with a body
  bad_by_body : (action : Action) (body : List ℕ) (now : ℕ) (fault : BodyFault) → by_body action (body_of action body now) ≡ Err (BadBody fault) → ActionNeedsMemory session given octets (Some action)
  unfolding by_body body_of
  bad_by_body HearDhcp body now fault is = tt
  bad_by_body HearLldp body now fault is = tt
  bad_by_body (ListRows listing) body now fault is = tt
  bad_by_body (State statement) body now fault is = tt
  bad_by_body Import body now fault is = tt
  bad_by_body Judge body now fault is = absurd (cc)
  bad_by_body Why body now fault is = tt

  bad_by : (method body : List ℕ) (now : ℕ) (route : Route) (action : Option Action) (fault : BodyFault) → by_action route action body now ≡ Err (BadBody fault) → ActionNeedsMemory session given octets action
  unfolding by_action
  bad_by method body now route None fault is = absurd (cc)
  bad_by method body now route (Some action) fault is = bad_by_body action body now fault is

  bad_at : (method body : List ℕ) (now : ℕ) (route : Option Route) (fault : BodyFault) → by_route route method body now ≡ Err (BadBody fault) → ActionNeedsMemory session given octets (option_and_then (action_by method) route)
  bad_at method body now None fault is = absurd (cc)
  bad_at method body now (Some route) fault is = bad_by method body now route (action_by method route) fault is

  module _ (method target body : List ℕ) (now : ℕ) where
    wants_asked : (question : Question) → question_of method target body now ≡ Ok question → AskedNeedsMemory session given octets question.asked → ActionNeedsMemory session given octets (action_at method target)
    unfolding question_of action_at
    wants_asked question is may = asked_at method body now (route_of target) question is may

    wants_unasked : (unasked : Refusal NoQuestion) (reply : Reply) → Fails unasked (question_of method target body now) → (unasked ≡ Memory → reads_with_memory (action_at method target) ≡ true)
        → IsRefusalOf unasked reply → reply.status ≡ NoStorage → ActionNeedsMemory session given octets (action_at method target)
    unfolding question_of action_at
    wants_unasked Memory reply says takes is status = reading (action_at method target) (takes refl)
    wants_unasked (Broken NoRoute) reply says takes is status = not_wanted NotFound reply (ap (λ (r : Reply). r.status) is ∙ status_of_no_route) status (λ same. absurd (cc))
    wants_unasked (Broken (NoMethod route)) reply says takes is status = not_wanted MethodNotAllowed reply (ap (λ (r : Reply). r.status) is ∙ status_of_no_method route) status (λ same. absurd (cc))
    wants_unasked (Broken (BadBody fault)) reply says takes is status = bad_at method body now (route_of target) fault says

-- what the parts of a request do is what the request does
module _ (from : MomentFrom) (r : Request) (parts : RequestParts) (are : AreParts from r parts) where
  action_here : action_at parts.method.now parts.path.now ≡ action_at r.head.method r.head.target
  unfolding action_at
  action_here = (λ i. option_and_then (action_by (are.method i)) (route_of (are.path i))) ∙ ap (λ (route : Option Route). option_and_then (action_by r.head.method) route) (route_again r.head)

  pub may_want : (session : Session) (given : ℕ) → ActionNeedsMemory session given parts.body.now (action_at parts.method.now parts.path.now) → NeedsMemory session given r
  unfolding NeedsMemory
  may_want session given may =
      subst (λ (octets : List ℕ). ActionNeedsMemory session given octets (action_at r.head.method r.head.target)) are.body
      (subst (λ (action : Option Action). ActionNeedsMemory session given parts.body.now action) action_here may)

  pub wants_by_question : (session : Session) (given now : ℕ) (question : Question) → question_of parts.method.now parts.path.now parts.body.now now ≡ Ok question
      → AskedNeedsMemory session given parts.body.now question.asked → NeedsMemory session given r
  wants_by_question session given now question is may = may_want session given (wants_asked session given parts.body.now parts.method.now parts.path.now parts.body.now now question is may)

  pub wants_by_refusal : (session : Session) (given now : ℕ) (unasked : Refusal NoQuestion) (reply : Reply) → Fails unasked (question_of parts.method.now parts.path.now parts.body.now now)
      → (unasked ≡ Memory → reads_with_memory (action_at parts.method.now parts.path.now) ≡ true) → IsRefusalOf unasked reply → reply.status ≡ NoStorage → NeedsMemory session given r
  wants_by_refusal session given now unasked reply says takes is status =
      may_want session given (wants_unasked session given parts.body.now parts.method.now parts.path.now parts.body.now now unasked reply says takes is status)
