-- The states of the console, and what a whole request makes of them.
use Rattle.std.specs.Prelude.{◌≡◌, ℕ, ◌+◌, ◌≤◌, Bool, true, false, List, Option, Some, None}
use Rattle.mud_world.specs.Clock.{next_moment, later_moments}
use Rattle.desk_model.specs.Sessions.{Session}
use Rattle.mud_desk.specs.DeskState.{DeskState, session_of}
use Rattle.console_answers.specs.declared.status.Status.{Status}
use Rattle.http_requests.specs.Asked.{Asked}
use Rattle.http_requests.specs.Visits.{CountsOf}
use Rattle.console.specs.Replies.{is_unavailable}
use Rattle.console.specs.Answers.{AllowedAnswer}

-- the session of the desk, the moments that the clock will give, how many requests were answered with 503, and by how much the
-- keeper's count of failures has risen
pub record ConsoleState : Type 0 where
  pub session : Session
  pub moments : List ℕ
  pub unavailable : ℕ
  pub risen : ℕ

-- nothing was answered yet
abbrev pub begun : Session → List ℕ → ConsoleState
begun session moments = record { session = session; moments = moments; unavailable = 0; risen = 0 }

abbrev pub counted : Bool → ℕ → ℕ
counted true count = count + 1
counted false count = count

-- The moment of a request: its own, where it gives one, and the clock isn't asked. Else it is the clock's next one, where the
-- clock tells its moments, and some moment where it doesn't.
abbrev pub MomentBy : Type 0 → Option ℕ → ℕ → List ℕ → List ℕ → Type 0
MomentBy tells (Some own) given before after = (given ≡ own) × (after ≡ before)
MomentBy tells None given before after = tells → (given ≡ next_moment before) × (after ≡ later_moments before)

pub record TakesMoment (tells : Type 0) (own : Option ℕ) (given : ℕ) (before after : List ℕ) : Type 0 where
  pub moment : MomentBy tells own given before after

-- What may be answered to a whole request, and the state behind it. The keeper's count rises with a 503 and with nothing else.
pub record ConsoleStep (tells : Type 0) (s : ConsoleState) (what : Asked) (answer : List ℕ) (t : ConsoleState) : Type 0 where
  pub given : ℕ
  pub status : Status
  pub moment : TakesMoment tells what.given given s.moments t.moments
  pub may : AllowedAnswer s.session given what.request what.is_last status answer t.session
  pub count : t.unavailable ≡ counted (is_unavailable status) s.unavailable
  pub rises : s.risen ≤ t.risen
  pub steady : is_unavailable status ≡ false → t.risen ≡ s.risen

-- The console is in the state: the desk is in its session, the clock will give its moments, and the keeper's count has risen by as
-- much as the state says since it was so before: at least once for each 503, where it doesn't stand at its last value.
pub record IsAt (tells : Type 0) (desk : DeskState) (moments : List ℕ) (before now : ℕ) (s : ConsoleState) : Type 0 where
  pub session : s.session ≡ session_of desk
  pub clock : tells → moments ≡ s.moments
  pub paid : CountsOf s.unavailable before now
  pub risen : now ≡ before + s.risen
