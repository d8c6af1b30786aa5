-- A request as a service is given it.
use Rattle.std.specs.Prelude.{ℕ, Bool, List, Option, is_some}
use Rattle.http_requests.specs.declared.fault.MomentFrom.{MomentFrom}
use Rattle.http_requests.specs.Framing.{moment_of}
use Rattle.http_requests.specs.Requests.{Request, stop_after}

-- A whole request, the moment that it gives where moments come from headers, and whether the connection ends after it.
pub record Asked : Type 0 where
  pub request : Request
  pub given : Option ℕ
  pub is_last : Bool

abbrev pub asked_by : MomentFrom → Bool → Request → Asked
asked_by from is_last request = record { request = request; given = moment_of from request.head; is_last = is_last }

-- the same where so many more requests are answered on the connection
abbrev pub asked : MomentFrom → ℕ → Request → Asked
asked from more request = asked_by from (is_some (stop_after more request)) request

-- The request was carried out from the state: it may be given this answer, and what is kept is the state behind it.
pub record CarriedOut {S : Type 0} (may : S → Asked → List ℕ → S → Type 0) (keeps : S → Type 0) (s : S) (what : Asked) (answer : List ℕ) : Type 0 where
  pub next : S
  pub is_allowed : may s what answer next
  pub kept : keeps next
