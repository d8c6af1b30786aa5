-- How rows in order are put in among others all at once: only the contracts of its steps cite this.
use Rattle.std.specs.Prelude.{◌≡◌, List, [], ◌∷◌, ◌++◌}

-- the last element was moved to the end of others
pub record IsMoved {A : Type 0} (from from' to to' : List A) : Type 0 where
  pub last : A
  pub left : from ≡ from' ++ last ∷ []
  pub come : to' ≡ to ++ last ∷ []

-- the last element is gone
pub record IsCut {A : Type 0} (old new : List A) : Type 0 where
  pub last : A
  pub left : old ≡ new ++ last ∷ []
