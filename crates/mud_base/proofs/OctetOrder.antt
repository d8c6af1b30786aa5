-- Octet strings stand to one another as the numbers do that so many first octets spell, and where
-- these are the same, as what stands behind those octets.
use Rattle.std.proofs.Common.{◌≡◌, ℕ, zero, suc, ◌+◌, ◌*◌, ◌^◌, ◌<◌, ◌≤◌, List, [], ◌∷◌, length, get_or, take, drop, refl, sym, ap, ◌∙◌, arith, ap₂, inl, inr, min, ◌-◌, pow-suc, length-drop}
use Rattle.std.proofs.lemmas.Bool.{cases_lt}
use Rattle.std.specs.Int.{w64, from_be_bytes}
use Rattle.std.specs.Ordering.{nat_cmp, ordering_then}
use Rattle.std.specs.declared.cmp.Ordering.{Ordering}
use Rattle.std.specs.declared.cmp.Ordering.TheVariants.{Less, Equal, Greater}
use Rattle.std.specs.Cmp.{nat_cmp_is}
use Rattle.std.specs.Cmp.Lexicographic.{slice_cmp}
use Rattle.std.proofs.lemmas.Cmp.{ranked}
use Rattle.std.proofs.lemmas.List.{drop-drop, get_or-drop}
use Rattle.std.proofs.lemmas.Nat.{mul-add-lt}
use Rattle.mud_base.specs.Numbers.{big_64}

abbrev AreOctets : List ℕ → Type 0
AreOctets xs = (k : ℕ) → get_or xs k 0 < 256

-- ---- A digit in front of a number

same_digit : (h a b : ℕ) (o : Ordering) → o ≡ nat_cmp a b → nat_cmp (h + a) (h + b) ≡ o
same_digit h a b Less is = let lt : a < b = ranked a b Less is in sym (nat_cmp_is (h + a) (h + b) Less (omega (arith, lt)))
same_digit h a b Equal is = let same : a ≡ b = ranked a b Equal is in sym (nat_cmp_is (h + a) (h + b) Equal (omega (arith, same)))
same_digit h a b Greater is = let gt : b < a = ranked a b Greater is in sym (nat_cmp_is (h + a) (h + b) Greater (omega (arith, gt)))

digit_by : (w x y a b : ℕ) → a < w → b < w → (o : Ordering) → o ≡ nat_cmp x y → nat_cmp (x * w + a) (y * w + b) ≡ ordering_then o (nat_cmp a b)
digit_by w x y a b p q Less is =
    let lt : x < y = ranked x y Less is in
    sym (nat_cmp_is (x * w + a) (y * w + b) Less (omega (arith, mul-add-lt x w a y lt p)))
digit_by w x y a b p q Equal is =
    let same : x ≡ y = ranked x y Equal is in
    ap (λ z. nat_cmp (x * w + a) (z * w + b)) (sym same) ∙ same_digit (x * w) a b (nat_cmp a b) refl
digit_by w x y a b p q Greater is =
    let gt : y < x = ranked x y Greater is in
    sym (nat_cmp_is (x * w + a) (y * w + b) Greater (omega (arith, mul-add-lt y w b x gt q)))

-- the digits decide, and then what stands behind them
digit : (w x y a b : ℕ) → a < w → b < w → nat_cmp (x * w + a) (y * w + b) ≡ ordering_then (nat_cmp x y) (nat_cmp a b)
digit w x y a b p q = digit_by w x y a b p q (nat_cmp x y) refl

then_assoc : (o p q : Ordering) → ordering_then (ordering_then o p) q ≡ ordering_then o (ordering_then p q)
then_assoc Less p q = refl
then_assoc Equal p q = refl
then_assoc Greater p q = refl

-- ---- The number of the first octets

-- the number that so many first octets spell
abbrev front : ℕ → List ℕ → ℕ
front zero xs = 0
front (suc n) [] = 0
front (suc n) (x ∷ xs) = x * 256 ^ n + front n xs

small : (n : ℕ) (xs : List ℕ) → n ≤ length xs → AreOctets xs → front n xs < 256 ^ n
small zero xs long octets = omega arith
small (suc n) [] long octets = absurd (omega (arith, long))
small (suc n) (x ∷ xs) long octets = rw (pow-suc 256 n) (mul-add-lt x (256 ^ n) (front n xs) 256 (octets 0) (small n xs (omega (arith, long)) (λ k. octets (suc k))))

-- the numbers of so many first octets decide, and then what stands behind these
fronts : (n : ℕ) (xs ys : List ℕ) → n ≤ length xs → n ≤ length ys → AreOctets xs → AreOctets ys
    → slice_cmp nat_cmp xs ys ≡ ordering_then (nat_cmp (front n xs) (front n ys)) (slice_cmp nat_cmp (drop n xs) (drop n ys))
fronts zero xs ys p q ox oy = refl
fronts (suc n) [] ys p q ox oy = absurd (omega (arith, p))
fronts (suc n) (x ∷ xs) [] p q ox oy = absurd (omega (arith, q))
fronts (suc n) (x ∷ xs) (y ∷ ys) p q ox oy =
    let below : n ≤ length xs = omega (arith, p) in
    let other_below : n ≤ length ys = omega (arith, q) in
    let rest = λ (k : ℕ). ox (suc k) in
    let other_rest = λ (k : ℕ). oy (suc k) in
    let behind : Ordering = slice_cmp nat_cmp (drop n xs) (drop n ys) in
    ap (ordering_then (nat_cmp x y)) (fronts n xs ys below other_below rest other_rest)
    ∙ sym (then_assoc (nat_cmp x y) (nat_cmp (front n xs) (front n ys)) behind)
    ∙ ap (λ o. ordering_then o behind) (sym (digit (256 ^ n) x y (front n xs) (front n ys) (small n xs below rest) (small n ys other_below other_rest)))

decided : (o r : Ordering) → (o ≡ Equal → ⊥) → ordering_then o r ≡ o
decided Less r apart = refl
decided Equal r apart = absurd (apart refl)
decided Greater r apart = refl

equal_numbers : (a b : ℕ) → nat_cmp a b ≡ Equal → a ≡ b
equal_numbers a b e = ranked a b Equal (sym e)

both_equal : (o r : Ordering) → ordering_then o r ≡ Equal → (o ≡ Equal) × (r ≡ Equal)
both_equal Less r e = absurd cc
both_equal Equal r e = (refl, e)
both_equal Greater r e = absurd cc

same_digits : (w x y a b : ℕ) → a < w → b < w → x * w + a ≡ y * w + b → (x ≡ y) × (a ≡ b)
same_digits w x y a b p q e =
    let equal = both_equal (nat_cmp x y) (nat_cmp a b) (sym (digit w x y a b p q) ∙ sym (nat_cmp_is (x * w + a) (y * w + b) Equal e)) in
    (equal_numbers x y equal.0, equal_numbers a b equal.1)

-- where so many first octets spell the same number, what is from any of them on decides
same_fronts : (n : ℕ) (xs ys : List ℕ) → n ≤ length xs → n ≤ length ys → AreOctets xs → AreOctets ys → front n xs ≡ front n ys
    → (k : ℕ) → k ≤ n → slice_cmp nat_cmp (drop k xs) (drop k ys) ≡ slice_cmp nat_cmp xs ys
same_fronts n xs ys p q ox oy e zero le = refl
same_fronts zero xs ys p q ox oy e (suc k) le = absurd (omega (arith, le))
same_fronts (suc n) [] ys p q ox oy e (suc k) le = absurd (omega (arith, p))
same_fronts (suc n) (x ∷ xs) [] p q ox oy e (suc k) le = absurd (omega (arith, q))
same_fronts (suc n) (x ∷ xs) (y ∷ ys) p q ox oy e (suc k) le =
    let below : n ≤ length xs = omega (arith, p) in
    let other_below : n ≤ length ys = omega (arith, q) in
    let rest = λ (k : ℕ). ox (suc k) in
    let other_rest = λ (k : ℕ). oy (suc k) in
    let same = same_digits (256 ^ n) x y (front n xs) (front n ys) (small n xs below rest) (small n ys other_below other_rest) e in
    same_fronts n xs ys below other_below rest other_rest same.1 k (omega (arith, le))
    ∙ ap (λ o. ordering_then o (slice_cmp nat_cmp xs ys)) (nat_cmp_is x y Equal same.0)

-- ---- Eight octets

eight_are : (xs : List ℕ) → 8 ≤ length xs → front 8 xs ≡ from_be_bytes w64 (take 8 xs)
eight_are [] long = absurd (omega (arith, long))
eight_are (a ∷ []) long = absurd (omega (arith, long))
eight_are (a ∷ b ∷ []) long = absurd (omega (arith, long))
eight_are (a ∷ b ∷ c ∷ []) long = absurd (omega (arith, long))
eight_are (a ∷ b ∷ c ∷ d ∷ []) long = absurd (omega (arith, long))
eight_are (a ∷ b ∷ c ∷ d ∷ e ∷ []) long = absurd (omega (arith, long))
eight_are (a ∷ b ∷ c ∷ d ∷ e ∷ f ∷ []) long = absurd (omega (arith, long))
eight_are (a ∷ b ∷ c ∷ d ∷ e ∷ f ∷ g ∷ []) long = absurd (omega (arith, long))
eight_are (a ∷ b ∷ c ∷ d ∷ e ∷ f ∷ g ∷ h ∷ xs) long = omega arith

octets_behind : (n : ℕ) (xs : List ℕ) → AreOctets xs → AreOctets (drop n xs)
octets_behind n xs octets k = rw (get_or-drop n xs k 0) (octets (n + k))

module _ (n : ℕ) (xs ys : List ℕ) (p : n + 8 ≤ length xs) (q : n + 8 ≤ length ys) (ox : AreOctets xs) (oy : AreOctets ys) where
  long : 8 ≤ length (drop n xs)
  long = omega (arith, p, length-drop n xs)

  other_long : 8 ≤ length (drop n ys)
  other_long = omega (arith, q, length-drop n ys)

  -- where the numbers in the eight octets from an offset on differ, they decide what is from there on
  pub eights_apart : (big_64 n xs ≡ big_64 n ys → ⊥) → nat_cmp (big_64 n xs) (big_64 n ys) ≡ slice_cmp nat_cmp (drop n xs) (drop n ys)
  unfolding big_64
  eights_apart apart =
      sym (fronts 8 (drop n xs) (drop n ys) long other_long (octets_behind n xs ox) (octets_behind n ys oy)
      ∙ ap₂ (λ (a b : ℕ). ordering_then (nat_cmp a b) (slice_cmp nat_cmp (drop 8 (drop n xs)) (drop 8 (drop n ys)))) (eight_are (drop n xs) long) (eight_are (drop n ys) other_long)
      ∙ decided (nat_cmp (big_64 n xs) (big_64 n ys)) (slice_cmp nat_cmp (drop 8 (drop n xs)) (drop 8 (drop n ys))) (λ e. apart (equal_numbers (big_64 n xs) (big_64 n ys) e)))

  behind_eight : big_64 n xs ≡ big_64 n ys → (j : ℕ) → j ≤ 8 → slice_cmp nat_cmp (drop (n + j) xs) (drop (n + j) ys) ≡ slice_cmp nat_cmp (drop n xs) (drop n ys)
  unfolding big_64
  behind_eight same j few =
      sym (ap₂ (slice_cmp nat_cmp) (drop-drop j n xs) (drop-drop j n ys))
      ∙ same_fronts 8 (drop n xs) (drop n ys) long other_long (octets_behind n xs ox) (octets_behind n ys oy) (eight_are (drop n xs) long ∙ same ∙ sym (eight_are (drop n ys) other_long)) j few

  -- where they are the same, what is from an offset up to behind them on decides
  pub eights_alike : big_64 n xs ≡ big_64 n ys → ((k : ℕ) → k ≤ n → slice_cmp nat_cmp (drop k xs) (drop k ys) ≡ slice_cmp nat_cmp xs ys)
      → (k : ℕ) → k ≤ n + 8 → slice_cmp nat_cmp (drop k xs) (drop k ys) ≡ slice_cmp nat_cmp xs ys
  eights_alike same before k within =
      elim (cases_lt k n) [
        | inl lt ↦ before k (omega (arith, lt))
        | inr le ↦
            ap (λ (m : ℕ). slice_cmp nat_cmp (drop m xs) (drop m ys)) {x = k} {y = n + (k - n)} (omega (arith, le))
            ∙ behind_eight same (k - n) (omega (arith, within)) ∙ before n (omega arith)
      ]

-- ---- Where one of them ends

ended : (us vs : List ℕ) → min (length us) (length vs) ≡ 0 → nat_cmp (length us) (length vs) ≡ slice_cmp nat_cmp us vs
ended [] [] e = refl
ended [] (v ∷ vs) e = sym (nat_cmp_is 0 (length (v ∷ vs)) Less (omega arith))
ended (u ∷ us) [] e = sym (nat_cmp_is (length (u ∷ us)) 0 Greater (omega arith))
ended (u ∷ us) (v ∷ vs) e = absurd (omega (arith, e))

-- behind the end of one, the lengths decide
pub lengths_decide : (n : ℕ) (xs ys : List ℕ) → n ≡ min (length xs) (length ys) → nat_cmp (length xs) (length ys) ≡ slice_cmp nat_cmp (drop n xs) (drop n ys)
lengths_decide n xs ys least =
    let own : n + (length xs - n) ≡ length xs = omega (arith, least) in
    let other : n + (length ys - n) ≡ length ys = omega (arith, least) in
    sym (ap₂ nat_cmp own other)
    ∙ same_digit n (length xs - n) (length ys - n) (nat_cmp (length xs - n) (length ys - n)) refl
    ∙ sym (ap₂ nat_cmp (length-drop n xs) (length-drop n ys))
    ∙ ended (drop n xs) (drop n ys) (omega (arith, least, length-drop n xs, length-drop n ys))
