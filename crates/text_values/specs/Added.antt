-- What a writer leaves that finds no memory.
use Rattle.std.specs.Prelude.{◌≡◌, ℕ, List, ◌++◌}

-- A first part of the text was added, which may be none of it.
pub record AddedPart (text old new : List ℕ) : Type 0 where
  pub added : List ℕ
  pub rest : List ℕ
  pub split : text ≡ added ++ rest
  pub grown : new ≡ old ++ added
