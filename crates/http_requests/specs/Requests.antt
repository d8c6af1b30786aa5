-- The requests of a connection and how they end, as a statement on all its octets at once.
use Rattle.std.specs.Prelude.{◌≡◌, ℕ, ◌-◌, ◌<◌, ◌==◌, ◌⊎◌, false, List, [], ◌∷◌, ◌++◌, length, Option, Some, None, if◌then◌else◌}
use Rattle.std.specs.List.{before_first}
use Rattle.httparse.specs.Grammar.{RequestHead}
use Rattle.http_requests.specs.declared.fault.FramingFault.{FramingFault}
use Rattle.http_requests.specs.declared.fault.FramingFault.TheVariants.{Head, Cut}
use Rattle.http_requests.specs.declared.fault.RequestFault.{RequestFault}
use Rattle.http_requests.specs.declared.fault.MomentFrom.{MomentFrom}
use Rattle.http_requests.specs.Head.{IsHead, HasNoHead}
use Rattle.http_requests.specs.Framing.{is_head, refusal_of, body_length, closes, leave_of}

-- A request: a head and its body.
pub record Request : Type 0 where
  pub head : RequestHead
  pub body : List ℕ

-- the target up to its first `?`
unfoldable pub path_of : RequestHead → List ℕ
path_of head = before_first (λ c. c == 63) head.target

-- At the front of the octets stands this whole request, and others come after it.
pub record Begins (from : MomentFrom) (octets : List ℕ) (request : Request) (after : List ℕ) : Type 0 where
  pub head : IsHead octets request.head (request.body ++ after)
  pub taken : refusal_of from request.head ≡ None
  pub body : length request.body ≡ body_length request.head

-- ---- Faults. `pending` is what was written while a body was awaited.

-- where no head can be read, and so no method
abbrev pub no_head : RequestFault
no_head = record { framing = Head; is_head = false }

-- in the request with the head
abbrev pub fault_in : RequestHead → FramingFault → RequestFault
fault_in head framing = record { framing = framing; is_head = is_head head.method }

-- Octets are left, and no front of them is a head.
pub record LacksHead (octets : List ℕ) (fault : RequestFault) (pending : List ℕ) : Type 0 where
  pub some : 0 < length octets
  pub none : HasNoHead octets
  pub is_lack : fault ≡ no_head
  pub nothing_written : pending ≡ []

-- The head is refused.
pub record IsRefused (from : MomentFrom) (octets : List ℕ) (fault : RequestFault) (pending : List ℕ) : Type 0 where
  pub head : RequestHead
  pub rest : List ℕ
  pub is_head : IsHead octets head rest
  pub reason : FramingFault
  pub refused : refusal_of from head ≡ Some reason
  pub is_refusal : fault ≡ fault_in head reason
  pub nothing_written : pending ≡ []

-- The octets end inside the body.
pub record IsCut (from : MomentFrom) (octets : List ℕ) (fault : RequestFault) (pending : List ℕ) : Type 0 where
  pub head : RequestHead
  pub rest : List ℕ
  pub is_head : IsHead octets head rest
  pub taken : refusal_of from head ≡ None
  pub short : length rest < body_length head
  pub is_cut : fault ≡ fault_in head Cut
  pub leave_written : pending ≡ leave_of head

-- Where these octets are all that is left of a connection, this fault is their end.
pub record IsFault (from : MomentFrom) (octets : List ℕ) (fault : RequestFault) (pending : List ℕ) : Type 0 where
  pub cause : (LacksHead octets fault pending ⊎ IsRefused from octets fault pending) ⊎ IsCut from octets fault pending

-- ---- Whole connections

-- How a connection ends: with no octets left, after a request that closes it, after the last request that is answered on one
-- connection, or with a fault.
pub data Ending : Type 0 where
  ended : Ending
  closed : Ending
  spent : Ending
  broken : RequestFault → List ℕ → Ending

-- how many requests are answered on one connection
abbrev pub most_requests : ℕ
most_requests = 1000000

-- how the connection ends with this request, if it does, where so many more are answered
unfoldable pub stop_after : ℕ → Request → Option Ending
stop_after most request = if most == 1 then Some spent else if closes request.head then Some closed else None

-- The octets are these requests and this end, where so many are answered.
abbrev pub AreRequests : MomentFrom → ℕ → List ℕ → List Request → Ending → Type 0
AreRequests from most octets [] ended = octets ≡ []
AreRequests from most octets [] closed = ⊥
AreRequests from most octets [] spent = ⊥
AreRequests from most octets [] (broken fault pending) = IsFault from octets fault pending
AreRequests from most octets (r ∷ more) end =
    (after : List ℕ) × Begins from octets r after
    × (((stop_after most r ≡ Some end) × (more ≡ [])) ⊎ ((stop_after most r ≡ None) × AreRequests from (most - 1) after more end))

-- These requests stand at the front of the octets, none of which ends the connection. Then come the octets `after`, of which
-- `left` more requests are answered.
abbrev pub GoOn : MomentFrom → ℕ → List ℕ → List Request → ℕ → List ℕ → Type 0
GoOn from most octets [] left after = (most ≡ left) × (octets ≡ after)
GoOn from most octets (r ∷ more) left after =
    (mid : List ℕ) × Begins from octets r mid × (stop_after most r ≡ None) × GoOn from (most - 1) mid more left after
