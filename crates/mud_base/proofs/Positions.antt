-- Where the first element stands that passes a test, and what stands before it.
use Rattle.std.proofs.Common.{◌≡◌, ℕ, ◌<◌, ◌≤◌, Bool, cond, ltb, List, length, take, Some, None, sym, ap, arith}
use Rattle.std.specs.List.{before_first, position, position_or_len}
use Rattle.std.proofs.lemmas.Bool.{cond_both, ltb-true, ltb-false}

-- the offset that `position` answers is the length of what stands before it
pub position_is : (n m : ℕ) (k : ℕ) → Some k ≡ cond (ltb n m) (Some n) None → (n ≡ k) × (k < m)
position_is n m k =
    cond_both (ltb n m) (Some n) None (λ o. Some k ≡ o → (n ≡ k) × (k < m)) (λ t e. let same : n ≡ k = cc in (same, omega (arith, ltb-true n m t))) (λ t e. cc)

pub position_none : (n m : ℕ) → None ≡ cond (ltb n m) (Some n) None → m ≤ n
position_none n m = cond_both (ltb n m) (Some n) None (λ o. None ≡ o → m ≤ n) (λ t e. cc) (λ t e. ltb-false n m t)

pub before_first_found : (p : ℕ → Bool) (xs : List ℕ) (k : ℕ) → Some k ≡ position p xs → take k xs ≡ before_first p xs
before_first_found p xs k e = ap (λ n. take n xs) (sym (position_is (position_or_len p xs) (length xs) k e).0)
