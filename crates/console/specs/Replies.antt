-- Replies, and what may be replied instead.
use Rattle.std.specs.Prelude.{◌≡◌, ℕ, ◌⊎◌, Bool, true, false, List, codes, Option, Some, None, Result, Ok, Err}
use Rattle.mud_base.specs.declared.memory.Memory as want
use Rattle.console_routes.specs.declared.route.Route.{Route}
use Rattle.console_answers.specs.declared.status.Status.{Status}
use Rattle.console_answers.specs.declared.status.Status.TheVariants.{NotFound, MethodNotAllowed, Unavailable, NoStorage}
use Rattle.console_answers.specs.Bodies.Outcomes.{rule_body}
use Rattle.desk_model.specs.Sessions.{Session}

-- the status, the route whose methods are named, and the body
pub record Reply : Type 0 where
  pub status : Status
  pub allow : Option Route
  pub body : List ℕ

-- a reply that names no methods
unfoldable pub reply : Status → List ℕ → Reply
reply status body = record { status = status; allow = None; body = body }

-- a reply, and the session after it
pub record Replied : Type 0 where
  pub reply : Reply
  pub session : Session

abbrev pub replied : Reply → Session → Replied
replied reply session = record { reply = reply; session = session }

-- ---- Rules alone

-- no route has the path of the target (RFC 9110, 15.5.5)
unfoldable pub no_route : Reply
no_route = reply NotFound (rule_body (codes "route"))

-- the route has not the method, and its methods are named (RFC 9110, 15.5.6)
unfoldable pub no_method : Route → Reply
no_method route = record { status = MethodNotAllowed; allow = Some route; body = rule_body (codes "method") }

-- a change could not be kept (RFC 9110, 15.6.4)
unfoldable pub unavailable : Reply
unavailable = reply Unavailable (rule_body (codes "keeper"))

-- memory was wanted (RFC 4918, 11.5)
unfoldable pub no_storage : Reply
no_storage = reply NoStorage (rule_body (codes "memory"))

-- the status says that a change could not be kept
abbrev pub is_unavailable : Status → Bool
is_unavailable Unavailable = true
is_unavailable _ = false

-- a body that was made, or that there was no memory for it
unfoldable pub made_reply : Status → Result (List ℕ) want.Memory → Reply
made_reply status (Ok body) = reply status body
made_reply status (Err memory) = no_storage

-- ---- What may be replied instead

-- Instead of the defined reply 507 may be replied, and 503 where it is told: after either the session is as it was.
pub record IsOrFailed (may_fail : Type 0) (session : Session) (defined : Replied) (given : Reply) (after : Session) : Type 0 where
  pub one : ((defined ≡ replied given after) ⊎ ((given ≡ no_storage) × (after ≡ session))) ⊎ (may_fail × (given ≡ unavailable) × (after ≡ session))

-- the defined reply, or that memory was wanted
pub record IsOrWanted (defined given : Reply) : Type 0 where
  pub one : (given ≡ defined) ⊎ (given ≡ no_storage)
