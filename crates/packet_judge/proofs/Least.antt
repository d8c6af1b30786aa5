-- The least number that passes a test.
use Rattle.std.proofs.Common.{◌≡◌, ℕ, ◌+◌, ◌≤◌, ◌<◌, ◌⊎◌, inl, inr, Bool, true, false, leb, ◌||◌, min, Option, Some, None, sym, ap, subst, ◌∙◌, arith}
use Rattle.std.proofs.lemmas.Bool.{false≢true, or_left, or_right, or_from}
use Rattle.std.proofs.lemmas.Bool.Decides.{leb_tells}
use Rattle.packet_judge.specs.ByRows.{lesser}

-- from `k` on, the number is the least that passes, or none passes
abbrev pub IsLeastFrom : ℕ → (ℕ → Bool) → Option ℕ → Type 0
IsLeastFrom k p None = (n : ℕ) → k ≤ n → p n ≡ false
IsLeastFrom k p (Some n) = (k ≤ n) × (p n ≡ true) × ((m : ℕ) → k ≤ m → m < n → p m ≡ false)

-- number by number the same tests
pub least_alike : (k : ℕ) (p q : ℕ → Bool) → ((n : ℕ) → p n ≡ q n) → (o : Option ℕ) → IsLeastFrom k p o → IsLeastFrom k q o
least_alike k p q same None least = λ n le. sym (same n) ∙ least n le
least_alike k p q same (Some n) least = (least.0, sym (same n) ∙ least.1, λ m le lt. sym (same m) ∙ least.2 m le lt)

least_of_two : (k : ℕ) (p q : ℕ → Bool) (m n : ℕ) → IsLeastFrom k p (Some m) → IsLeastFrom k q (Some n) → ((m ≤ n) ⊎ (n < m)) → IsLeastFrom k (λ i. p i || q i) (Some (min m n))
least_of_two k p q m n one two (inl le) =
    let is : m ≡ min m n = omega arith in
    subst (λ i. IsLeastFrom k (λ j. p j || q j) (Some i)) is (one.0, or_left (p m) (q m) one.1, λ i low lt. or_from (p i) (q i) (one.2 i low lt) (two.2 i low (omega arith)))
least_of_two k p q m n one two (inr lt) =
    let is : n ≡ min m n = omega arith in
    subst (λ i. IsLeastFrom k (λ j. p j || q j) (Some i)) is (two.0, or_right (p n) (q n) two.1, λ i low below. or_from (p i) (q i) (one.2 i low (omega arith)) (two.2 i low below))

one_or_other : (m n : ℕ) → ((leb m n ≡ true) × (m ≤ n)) ⊎ ((leb m n ≡ false) × (n < m)) → (m ≤ n) ⊎ (n < m)
one_or_other m n (inl le) = inl le.1
one_or_other m n (inr lt) = inr lt.1

pub le_or_gt : (m n : ℕ) → (m ≤ n) ⊎ (n < m)
le_or_gt m n = one_or_other m n (leb_tells m n)

same_or_less : (m n : ℕ) → m ≤ n → (n ≤ m) ⊎ (m < n) → (m ≡ n) ⊎ (m < n)
same_or_less m n le (inl ge) = inl (omega arith)
same_or_less m n le (inr lt) = inr lt

pub eq_or_less : (m n : ℕ) → m ≤ n → (m ≡ n) ⊎ (m < n)
eq_or_less m n le = same_or_less m n le (le_or_gt n m)

-- the lesser of two least numbers
pub least-lesser : (k : ℕ) (p q : ℕ → Bool) (o r : Option ℕ) → IsLeastFrom k p o → IsLeastFrom k q r → IsLeastFrom k (λ n. p n || q n) (lesser o r)
least-lesser k p q None None one two = λ n le. or_from (p n) (q n) (one n le) (two n le)
least-lesser k p q None (Some n) one two = (two.0, or_right (p n) (q n) two.1, λ m le lt. or_from (p m) (q m) (one m le) (two.2 m le lt))
least-lesser k p q (Some m) None one two = (one.0, or_left (p m) (q m) one.1, λ i le lt. or_from (p i) (q i) (one.2 i le lt) (two i le))
least-lesser k p q (Some m) (Some n) one two = least_of_two k p q m n one two (le_or_gt m n)

-- what passes first is the least
pub least_first : (k : ℕ) (p : ℕ → Bool) (o : Option ℕ) → p k ≡ true → IsLeastFrom k p o → o ≡ Some k
least_first k p None e least = absurd (false≢true (sym (least k (omega arith)) ∙ e))
least_first k p (Some n) e least = by (eq_or_less k n least.0)
  where
    by : ((k ≡ n) ⊎ (k < n)) → (let o : Option ℕ = Some n in o ≡ Some k)
    by (inl same) = ap Some (sym same)
    by (inr lt) = absurd (false≢true (sym (least.2 k (omega arith) lt) ∙ e))

-- what doesn't pass may be left out
pub least_later : (k : ℕ) (p : ℕ → Bool) (o : Option ℕ) → p k ≡ false → IsLeastFrom k p o → IsLeastFrom (k + 1) p o
least_later k p None e least = λ n le. least n (omega arith)
least_later k p (Some n) e least = (by (eq_or_less k n least.0), least.1, λ m le lt. least.2 m (omega arith) lt)
  where
    by : ((k ≡ n) ⊎ (k < n)) → k + 1 ≤ n
    by (inl same) = absurd (false≢true (sym e ∙ ap p same ∙ least.1))
    by (inr lt) = omega arith

-- and left out where the rest is known
pub least_sooner : (k : ℕ) (p : ℕ → Bool) (o : Option ℕ) → p k ≡ false → IsLeastFrom (k + 1) p o → IsLeastFrom k p o
least_sooner k p None e least = λ n le. by n le (eq_or_less k n le)
  where
    by : (n : ℕ) → k ≤ n → ((k ≡ n) ⊎ (k < n)) → p n ≡ false
    by n le (inl same) = ap p (sym same) ∙ e
    by n le (inr lt) = least n (omega arith)
least_sooner k p (Some n) e least = (omega (arith, least.0), least.1, λ m le lt. by m le lt (eq_or_less k m le))
  where
    by : (m : ℕ) → k ≤ m → m < n → ((k ≡ m) ⊎ (k < m)) → p m ≡ false
    by m le lt (inl same) = ap p (sym same) ∙ e
    by m le lt (inr low) = least.2 m (omega arith) lt

-- it stands at the start
pub least_here : (k : ℕ) (p : ℕ → Bool) → p k ≡ true → IsLeastFrom k p (Some k)
least_here k p e = (omega arith, e, λ m le lt. absurd (omega arith))
