-- A state beside a value that stays.
use Rattle.std.specs.Prelude.{◌≡◌, ℕ, List}
use Rattle.http_requests.specs.Asked.{Asked}

-- what may be answered from a state, and the state behind it, each beside the value
pub record StepBeside {S X : Type 0} (may : S → Asked → List ℕ → S → Type 0) (s : S × X) (what : Asked) (answer : List ℕ) (t : S × X) : Type 0 where
  pub may_be : may s.0 what answer t.0
  pub same : t.1 ≡ s.1
