-- What stands before and after the first element of a kind.
use Rattle.std.proofs.Common.{◌≡◌, ℕ, suc, get_or, ◌∷◌, ◌++◌, refl, ◌<◌, ◌≤◌, List, [], length, Some, None, Bool, true, false, arith}
use Rattle.std.proofs.Math.ListN.{drop_of_length-le}
use Rattle.std.proofs.Math.Seq.{take-append_seam, drop-append-add}
use Rattle.std.proofs.lemmas.Bool.Decides.{nat_tests}
use Rattle.std.proofs.lemmas.Grind.{common_steps}
use Rattle.std.specs.List.{position, position_or_len, before_first, after_first}

module _ (p : ℕ → Bool) (text : List ℕ) where
  pub offset_is : (offset : ℕ) → position p text ≡ Some offset → position_or_len p text ≡ offset
  offset_is offset found = grind (arith, nat_tests)

  pub offset_within : (offset : ℕ) → position p text ≡ Some offset → offset < length text
  offset_within offset found = grind (arith, nat_tests)

  over : position p text ≡ None → length text ≤ position_or_len p text
  over none = grind (arith, nat_tests)

  pub before_none : position p text ≡ None → before_first p text ≡ text
  before_none none = let past = over none in grind (arith, common_steps)

  pub after_none : position p text ≡ None → after_first p text ≡ []
  after_none none = let past = over none in drop_of_length-le text (omega arith)

-- a list with no such element, one, and what follows
module _ (p : ℕ → Bool) (first : ℕ) (is_first : p first ≡ true) (rest : List ℕ) where
  position_or_len-append : (front : List ℕ) → ((k : ℕ) → k < length front → p (get_or front k 0) ≡ false) → position_or_len p (front ++ first ∷ rest) ≡ length front
  position_or_len-append [] none = rw is_first refl
  position_or_len-append (x ∷ front) none = rw (none 0 (omega arith)) (rw (position_or_len-append front (λ k h. none (suc k) (omega arith))) (omega arith))

  pub before_first-append : (front : List ℕ) → ((k : ℕ) → k < length front → p (get_or front k 0) ≡ false) → before_first p (front ++ first ∷ rest) ≡ front
  before_first-append front none = rw (position_or_len-append front none) (take-append_seam front (first ∷ rest))

  pub after_first-append : (front : List ℕ) → ((k : ℕ) → k < length front → p (get_or front k 0) ≡ false) → after_first p (front ++ first ∷ rest) ≡ rest
  after_first-append front none = rw (position_or_len-append front none) (drop-append-add front (first ∷ rest) 1)
