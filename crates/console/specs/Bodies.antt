-- The body of an answer as it is held.
use Rattle.std.specs.Prelude.{ℕ, List, Option, Some, None}

-- a body that was made whole, and else the one in the buffer
unfoldable pub held_in : Option (List ℕ) → List ℕ → List ℕ
held_in None short = short
held_in (Some made) short = made
