-- What a request asks for, or the first thing that is wrong with it.
use Rattle.std.specs.Prelude.{ℕ, Bool, false, List, Option, Some, None, Result, Ok, Err, option_and_then}
use Rattle.console_answers.specs.declared.status.Status.TheVariants.{BadRequest}
use Rattle.console_routes.specs.declared.route.Route.{Route}
use Rattle.console_routes.specs.Routes.{route_of}
use Rattle.console_routes.specs.declared.action.Action.{Action}
use Rattle.console_routes.specs.Actions.{method_of, action_of}
use Rattle.console_bodies.specs.declared.fault.BodyFault.{BodyFault}
use Rattle.console_bodies.specs.declared.asked.Asked.{Asked}
use Rattle.console_bodies.specs.Bodies.{body_of, takes_memory}
use Rattle.console_listings.specs.Refusals.{body_fault_body}
use Rattle.console.specs.declared.question.Question.{Question}
use Rattle.console.specs.declared.question.NoQuestion.{NoQuestion}
use Rattle.console.specs.declared.question.NoQuestion.TheVariants.{NoRoute, NoMethod, BadBody}
use Rattle.console.specs.Replies.{Reply, reply, no_route, no_method}

unfoldable pub by_body : Action → Result Asked BodyFault → Result Question NoQuestion
by_body action (Ok asked) = Ok (record { action = action; asked = asked })
by_body action (Err fault) = Err (BadBody fault)

unfoldable pub by_action : Route → Option Action → List ℕ → ℕ → Result Question NoQuestion
by_action route None body now = Err (NoMethod route)
by_action route (Some action) body now = by_body action (body_of action body now)

-- What a request by this method for this target asks for with this body, taken at this moment. It asks for nothing where no
-- route has the target's path, the route has not the method, or the body breaks a rule, in this order.
unfoldable pub question_of : List ℕ → List ℕ → List ℕ → ℕ → Result Question NoQuestion
question_of method target body now = by_route (route_of target) method body now
  where
    by_route : Option Route → List ℕ → List ℕ → ℕ → Result Question NoQuestion
    by_route None method body now = Err NoRoute
    by_route (Some route) method body now = by_action route (option_and_then (action_of route) (method_of method)) body now

-- What a request by this method for this target does: nothing where no route has the target's path, or the route has not the
-- method.
unfoldable pub action_at : List ℕ → List ℕ → Option Action
action_at method target = option_and_then (λ route. option_and_then (action_of route) (method_of method)) (route_of target)

-- memory is taken to read what is asked for
abbrev pub reads_with_memory : Option Action → Bool
reads_with_memory None = false
reads_with_memory (Some action) = takes_memory action

-- the reply to a request that asks for nothing
unfoldable pub refusal_of : NoQuestion → Reply
refusal_of NoRoute = no_route
refusal_of (NoMethod route) = no_method route
refusal_of (BadBody fault) = reply BadRequest (body_fault_body fault)
