-- The moments that a clock will give. The last one stays.
use Rattle.std.specs.Prelude.{ℕ, List, [], ◌∷◌}

-- the moment that comes next
abbrev pub next_moment : List ℕ → ℕ
next_moment [] = 0
next_moment (m ∷ ms) = m

-- the moments that come after it
abbrev pub later_moments : List ℕ → List ℕ
later_moments [] = []
later_moments (m ∷ []) = m ∷ []
later_moments (m ∷ n ∷ ms) = n ∷ ms
