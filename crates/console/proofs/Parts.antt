-- Parts of definitions that lemmas speak of.
use Rattle.std.specs.Prelude.{ℕ, Err, List, None, Option, Result, Some, option_and_then, Ok, IsOkAnd, IsSomeAnd}
use Rattle.console.specs.declared.question.NoQuestion.{NoQuestion}
use Rattle.console.specs.declared.question.NoQuestion.TheVariants.{NoRoute}
use Rattle.console.specs.declared.question.Question.{Question}
use Rattle.console_routes.specs.declared.route.Route.{Route}
use Rattle.console_routes.specs.Actions.{action_of, method_of}
use Rattle.console.specs.Asks.{by_action, refusal_of}
use Rattle.desk_model.specs.Sessions.{Session, IsNoted}
use Rattle.console.specs.Replies.{Replied, replied}
use Rattle.console.specs.Requests.{by_question, Changes, command_asked}
use Rattle.console_routes.specs.declared.action.Action.{Action}
use Rattle.console_routes.specs.declared.action.Action.TheVariants.{Judge}
use Rattle.console_bodies.specs.declared.asked.Asked.TheVariants as asked

abbrev pub by_route : Option Route → List ℕ → List ℕ → ℕ → Result Question NoQuestion
by_route None method body now = Err NoRoute
by_route (Some route) method body now = by_action route (option_and_then (action_of route) (method_of method)) body now

abbrev pub by_result : Session → ℕ → List ℕ → Result Question NoQuestion → Replied
by_result session given body (Ok question) = by_question session given body question.action question.asked
by_result session given body (Err nothing) = replied (refusal_of nothing) session

abbrev pub ActionNeedsMemory : Session → ℕ → List ℕ → Option Action → Type 0
ActionNeedsMemory session given body None = ⊥
ActionNeedsMemory session given body (Some Judge) = IsNoted session given body
ActionNeedsMemory session given body (Some _) = Unit {0}

abbrev pub CallsKeeper : Session → ℕ → Result Question NoQuestion → Type 0
CallsKeeper session given asked = IsOkAnd asked (λ question. IsSomeAnd (command_asked question.asked) (Changes session given))
