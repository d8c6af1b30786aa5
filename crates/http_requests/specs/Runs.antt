-- Runs of requests, each from the state behind the one before.
use Rattle.std.specs.Prelude.{◌≡◌, ℕ, ◌-◌, List, [], ◌∷◌, ◌++◌}
use Rattle.http_requests.specs.declared.fault.MomentFrom.{MomentFrom}
use Rattle.http_requests.specs.Framing.{leave_of}
use Rattle.http_requests.specs.Requests.{Request}
use Rattle.http_requests.specs.Asked.{Asked, asked}

-- The requests lead from the first state to the last one, where so many are answered on the connection with them. The octets are
-- their answers in order, each behind the leave to send the body, where the client waits for that.
abbrev pub Runs : {S : Type 0} → (S → Asked → List ℕ → S → Type 0) → MomentFrom → ℕ → S → S → List Request → List ℕ → Type 0
Runs may from more s t [] octets = (s ≡ t) × (octets ≡ [])
Runs {S} may from more s t (r ∷ rs) octets =
    (mid : S) × (answer : List ℕ) × (later : List ℕ) × may s (asked from more r) answer mid
    × (octets ≡ (leave_of r.head ++ answer) ++ later) × Runs may from (more - 1) mid t rs later

-- Requests that were carried out one after the other lead from the first state to the last one.
abbrev pub Leads : {S : Type 0} → (S → Asked → List ℕ → S → Type 0) → S → S → List Asked → Type 0
Leads may s t [] = s ≡ t
Leads {S} may s t (what ∷ more) = (mid : S) × (answer : List ℕ) × may s what answer mid × Leads may mid t more

-- What is kept is what some requests left, which were carried out from the state on.
pub record IsLeftBy {S : Type 0} (may : S → Asked → List ℕ → S → Type 0) (keeps : S → Type 0) (s : S) : Type 0 where
  pub all : List Asked
  pub next : S
  pub kept : keeps next
  pub leads : Leads may s next all
