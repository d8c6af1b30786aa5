-- What the answers of a sort key, and of a beginning of sort keys, say of ascending rows.
use Rattle.std.proofs.Common.{◌≡◌, ℕ, zero, suc, ◌+◌, ◌-◌, ◌≤◌, ◌<◌, Bool, cond, nat_eq, ◌&&◌, List, [], ◌∷◌, length, map, get_or, take, drop, Result, Ok, Err, refl, sym, ap, subst, ◌∙◌, arith}
use Rattle.std.specs.List.{filter, slice_range}
use Rattle.std.specs.Cmp.{unsigned_ties}
use Rattle.std.specs.Ordering.{ordering_index, is_eq, ordering_then, nat_cmp}
use Rattle.std.specs.declared.cmp.Ordering.{Ordering}
use Rattle.std.specs.declared.cmp.Ordering.TheVariants.{Less, Equal, Greater}
use Rattle.std.proofs.lemmas.Cmp.{nat_cmp_total, alike_right}
use lib.Pointwise.{pointwise}
use Rattle.base_rows.specs.Sortable.{sort_key_cmp, prefix_cmp, SortKeysAbove, SortKeysAscend, index_in, one_on, is_under, rows_under}
use Rattle.base_rows.specs.Search.{AnswersFall, AllGreaterBefore, AllLessFrom, AllEqualWithin, IsGap, sort_key_answer, prefix_answer}
use Rattle.base_rows.proofs.SortableLaws.{sort_key_cmp_exact, sort_key_cmp_trans, sort_key_cmp_turned}

le_two : (o : Ordering) → ordering_index o ≤ 2
le_two Less = omega arith
le_two Equal = omega arith
le_two Greater = omega arith

less≢greater : Less ≡ Greater → ⊥
less≢greater e = cc

-- ---- Answers fall along ascending rows

module _ {R : Type 0} (sort_key : R → List ℕ) (answer : R → Ordering) (falls : (x y : R) → sort_key_cmp (sort_key x) (sort_key y) ≡ Less → ordering_index (answer y) ≤ ordering_index (answer x)) where
  falls_from : (x : R) (xs : List R) → SortKeysAbove sort_key (sort_key x) xs → (j : ℕ) → j < length (map answer xs) → ordering_index (get_or (map answer xs) j Equal) ≤ ordering_index (answer x)
  falls_from x [] above j lt = absurd (omega arith)
  falls_from x (y ∷ ys) above zero lt = falls x y above.0
  falls_from x (y ∷ ys) above (suc j) lt = falls_from x ys above.1 j (omega arith)

  pub answers_fall : (rows : List R) → SortKeysAscend sort_key rows → AnswersFall (map answer rows)
  answers_fall [] ascend i j le lt = absurd (omega arith)
  answers_fall (x ∷ xs) ascend zero zero le lt = omega arith
  answers_fall (x ∷ xs) ascend zero (suc j) le lt = falls_from x xs ascend.0 j (omega arith)
  answers_fall (x ∷ xs) ascend (suc i) zero le lt = absurd (omega arith)
  answers_fall (x ∷ xs) ascend (suc i) (suc j) le lt = answers_fall xs ascend.1 i j (omega arith) (omega arith)

sort_key_falls_by : (p q r : List ℕ) → sort_key_cmp q r ≡ Less → (o : Ordering) → sort_key_cmp p q ≡ o → ordering_index (sort_key_cmp p r) ≤ ordering_index o
sort_key_falls_by p q r lt Less e = let h : ordering_index (sort_key_cmp p r) ≡ 0 = ap ordering_index (sort_key_cmp_trans p q r e lt) in omega arith
sort_key_falls_by p q r lt Equal e = let h : ordering_index (sort_key_cmp p r) ≡ 0 = ap ordering_index (ap (λ s. sort_key_cmp s r) (sort_key_cmp_exact p q e) ∙ lt) in omega arith
sort_key_falls_by p q r lt Greater e = le_two (sort_key_cmp p r)

pub sort_key_answers_fall : {R : Type 0} (sort_key : R → List ℕ) (p : List ℕ) (rows : List R) → SortKeysAscend sort_key rows → AnswersFall (map (sort_key_answer sort_key p) rows)
sort_key_answers_fall sort_key p rows ascend = answers_fall sort_key (sort_key_answer sort_key p) (λ x y lt. sort_key_falls_by p (sort_key x) (sort_key y) lt (sort_key_cmp p (sort_key x)) refl) rows ascend

-- ---- The index of a sort key

module _ {R : Type 0} (sort_key : R → List ℕ) (p : List ℕ) where
  abbrev index_first : List R → Ordering → Result ℕ ℕ
  index_first xs o = elim o [ Less ↦ Err 0 | Equal ↦ Ok 0 | Greater ↦ one_on (index_in sort_key p xs) ]

  pub index_in_gap : (rows : List R) (i : ℕ) → IsGap (map (sort_key_answer sort_key p) rows) i → index_in sort_key p rows ≡ Err i
  index_in_gap [] zero gap = refl
  index_in_gap [] (suc i) gap = absurd (omega (arith, gap.within))
  index_in_gap (x ∷ xs) zero gap = ap (index_first xs) (gap.after 0 (omega arith) (omega arith))
  index_in_gap (x ∷ xs) (suc i) gap =
      ap (index_first xs) (gap.before 0 (omega arith))
      ∙ ap one_on (index_in_gap xs i (record { within = omega (arith, gap.within); before = λ k lt. gap.before (suc k) (omega arith); after = λ k le lt. gap.after (suc k) (omega arith) (omega arith) }))

  -- a sort key that a later row has is after that of an earlier row
  above_met : (q : List ℕ) (rows : List R) (i : ℕ) → SortKeysAbove sort_key q rows → get_or (map (sort_key_answer sort_key p) rows) i Less ≡ Equal → sort_key_cmp q p ≡ Less
  above_met q [] i above met = cc
  above_met q (x ∷ xs) zero above met = ap (sort_key_cmp q) (sort_key_cmp_exact p (sort_key x) met) ∙ above.0
  above_met q (x ∷ xs) (suc i) above met = above_met q xs i above.1 met

  pub index_in_met : (rows : List R) (i : ℕ) → SortKeysAscend sort_key rows → get_or (map (sort_key_answer sort_key p) rows) i Less ≡ Equal → index_in sort_key p rows ≡ Ok i
  index_in_met [] i ascend met = cc
  index_in_met (x ∷ xs) zero ascend met = ap (index_first xs) met
  index_in_met (x ∷ xs) (suc i) ascend met =
      ap (index_first xs) (sort_key_cmp_turned (sort_key x) p Less (above_met (sort_key x) xs i ascend.0 met))
      ∙ ap one_on (index_in_met xs i ascend.1 met)

-- ---- The rows under a beginning

then_falls : (s o q : Ordering) → ordering_index o ≤ ordering_index q → ordering_index (ordering_then s o) ≤ ordering_index (ordering_then s q)
then_falls Less o q le = omega arith
then_falls Equal o q le = le
then_falls Greater o q le = omega arith

less_then : (o q : Ordering) (n : ℕ) → o ≡ Less → ordering_index (ordering_then o q) ≤ n
less_then o q n e = subst (λ r. ordering_index (ordering_then r q) ≤ n) (sym e) (omega arith)

prefix_falls_by : (n x y : ℕ) (p a b : List ℕ) → (sort_key_cmp a b ≡ Less → ordering_index (prefix_cmp p b) ≤ ordering_index (prefix_cmp p a)) → (o : Ordering) → nat_cmp x y ≡ o → ordering_then o (sort_key_cmp a b) ≡ Less → (s : Ordering) → nat_cmp n x ≡ s → ordering_index (ordering_then (nat_cmp n y) (prefix_cmp p b)) ≤ ordering_index (ordering_then s (prefix_cmp p a))
prefix_falls_by n x y p a b rest Less e lt Less f = less_then (nat_cmp n y) (prefix_cmp p b) _ (nat_cmp_total.trans n x y f e)
prefix_falls_by n x y p a b rest Less e lt Equal f = less_then (nat_cmp n y) (prefix_cmp p b) _ (nat_cmp_total.congr n x y f ∙ e)
prefix_falls_by n x y p a b rest Less e lt Greater f = le_two (ordering_then (nat_cmp n y) (prefix_cmp p b))
prefix_falls_by n x y p a b rest Equal e lt s f = subst (λ o. ordering_index (ordering_then o (prefix_cmp p b)) ≤ ordering_index (ordering_then s (prefix_cmp p a))) (sym f ∙ alike_right nat_cmp_total x y n e) (then_falls s (prefix_cmp p b) (prefix_cmp p a) (rest lt))
prefix_falls_by n x y p a b rest Greater e lt s f = absurd (less≢greater (sym lt))

pub prefix_falls : (p a b : List ℕ) → sort_key_cmp a b ≡ Less → ordering_index (prefix_cmp p b) ≤ ordering_index (prefix_cmp p a)
prefix_falls [] a b lt = omega arith
prefix_falls (n ∷ p) [] b lt = le_two (prefix_cmp (n ∷ p) b)
prefix_falls (n ∷ p) (x ∷ a) [] lt = absurd (less≢greater (sym lt))
prefix_falls (n ∷ p) (x ∷ a) (y ∷ b) lt = prefix_falls_by n x y p a b (prefix_falls p a b) (nat_cmp x y) refl lt (nat_cmp n x) refl

pub prefix_answers_fall : {R : Type 0} (sort_key : R → List ℕ) (p : List ℕ) (rows : List R) → SortKeysAscend sort_key rows → AnswersFall (map (prefix_answer sort_key p) rows)
prefix_answers_fall sort_key p rows ascend = answers_fall sort_key (prefix_answer sort_key p) (λ x y lt. prefix_falls p (sort_key x) (sort_key y) lt) rows ascend

is_eq-then : (s o : Ordering) → is_eq (ordering_then s o) ≡ is_eq s && is_eq o
is_eq-then Less o = refl
is_eq-then Equal o = refl
is_eq-then Greater o = refl

eq_then : (n k : ℕ) (o : Ordering) → is_eq (ordering_then (nat_cmp n k) o) ≡ nat_eq n k && is_eq o
eq_then n k o = is_eq-then (nat_cmp n k) o ∙ ap (λ b. b && is_eq o) (sym (unsigned_ties n k))

pub is_eq-prefix_cmp : (p q : List ℕ) → pointwise nat_eq p (take (length p) q) ≡ is_eq (prefix_cmp p q)
is_eq-prefix_cmp [] q = refl
is_eq-prefix_cmp (n ∷ p) [] = refl
is_eq-prefix_cmp (n ∷ p) (k ∷ q) = ap (λ b. nat_eq n k && b) (is_eq-prefix_cmp p q) ∙ sym (eq_then n k (prefix_cmp p q))

module _ {R : Type 0} (answer : R → Ordering) (test : R → Bool) (agrees : (x : R) → test x ≡ is_eq (answer x)) where
  -- a test that passes where the answer is `Equal` keeps one stretch of the rows
  filter_stretch : (rows : List R) (i n : ℕ) → AllGreaterBefore (map answer rows) i → AllEqualWithin (map answer rows) i (i + n) → AllLessFrom (map answer rows) (i + n) → filter test rows ≡ take n (drop i rows)
  filter_stretch [] zero zero before within after = refl
  filter_stretch [] zero (suc n) before within after = refl
  filter_stretch [] (suc i) zero before within after = refl
  filter_stretch [] (suc i) (suc n) before within after = refl
  filter_stretch (x ∷ xs) zero zero before within after =
      ap (λ b. cond b (x ∷ filter test xs) (filter test xs)) (agrees x ∙ ap is_eq (after 0 (omega arith) (omega arith)))
      ∙ filter_stretch xs zero zero (λ k lt. absurd (omega arith)) (λ k le lt. absurd (omega arith)) (λ k le lt. after (suc k) (omega arith) (omega arith))
  filter_stretch (x ∷ xs) zero (suc n) before within after =
      ap (λ b. cond b (x ∷ filter test xs) (filter test xs)) (agrees x ∙ ap is_eq (within 0 (omega arith) (omega arith)))
      ∙ ap (λ ys. x ∷ ys) (filter_stretch xs zero n (λ k lt. absurd (omega arith)) (λ k le lt. within (suc k) (omega arith) (omega arith)) (λ k le lt. after (suc k) (omega arith) (omega arith)))
  filter_stretch (x ∷ xs) (suc i) n before within after =
      ap (λ b. cond b (x ∷ filter test xs) (filter test xs)) (agrees x ∙ ap is_eq (before 0 (omega arith)))
      ∙ filter_stretch xs i n (λ k lt. before (suc k) (omega arith)) (λ k le lt. within (suc k) (omega arith) (omega arith)) (λ k le lt. after (suc k) (omega arith) (omega arith))

module _ {R : Type 0} (sort_key : R → List ℕ) (p : List ℕ) (rows : List R) where
  -- the rows under a beginning are those from the first `Equal` to the last
  pub rows_under_stretch : (i j : ℕ) → i ≤ j → AllGreaterBefore (map (prefix_answer sort_key p) rows) i → AllEqualWithin (map (prefix_answer sort_key p) rows) i j → AllLessFrom (map (prefix_answer sort_key p) rows) j → rows_under sort_key p rows ≡ slice_range rows i j
  rows_under_stretch i j le before within after =
      filter_stretch (prefix_answer sort_key p) (is_under sort_key p) (λ x. is_eq-prefix_cmp p (sort_key x)) rows i (j - i) before
      (λ k low high. within k low (omega arith)) (λ k low high. after k (omega arith) high)

  -- none is, where no answer is `Equal`
  pub rows_under_gap : (i : ℕ) → IsGap (map (prefix_answer sort_key p) rows) i → rows_under sort_key p rows ≡ []
  rows_under_gap i gap = filter_stretch (prefix_answer sort_key p) (is_under sort_key p) (λ x. is_eq-prefix_cmp p (sort_key x)) rows i 0 gap.before (λ k low high. absurd (omega arith)) (λ k low high. gap.after k (omega arith) high)
