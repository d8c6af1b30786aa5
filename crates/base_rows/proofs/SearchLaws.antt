-- What each step of a search keeps.
use Rattle.std.proofs.Common.{◌≡◌, ℕ, zero, suc, ◌+◌, ◌-◌, ◌*◌, ◌^◌, ◌<◌, ◌≤◌, List, [], ◌∷◌, length, map, slice_get, get_or, Some, true, false, inl, inr, refl, sym, ap, subst, ◌∙◌, add-one, arith}
use Rattle.std.proofs.Math.Nat.{pow-succ', mul-le-mul_left}
use Rattle.std.proofs.Math.Pow.{pow_mono}
use Rattle.std.proofs.lemmas.Bool.{false≢true, cases_lt}
use Rattle.std.proofs.lemmas.List.{get_or_default}
use Rattle.std.proofs.lemmas.Option.{same_Some, none-some}
use Rattle.std.specs.Ordering.{ordering_index, is_ne}
use Rattle.std.specs.declared.cmp.Ordering.{Ordering}
use Rattle.std.specs.declared.cmp.Ordering.TheVariants.{Less, Equal, Greater}
use Rattle.base_rows.specs.Search.{AnswersFall, AllGreaterBefore, AllLessFrom, AllEqualWithin}

-- the answer at the row that was read
pub answer_at : {R : Type 0} (f : R → Ordering) (rows : List R) (i : ℕ) (x : R) (e o : Ordering) → slice_get rows i ≡ Some x → o ≡ f x → get_or (map f rows) i e ≡ o
answer_at f [] i x e o h is = absurd (none-some x h)
answer_at f (y ∷ rows) zero x e o h is = ap f (same_Some y x h) ∙ sym is
answer_at f (y ∷ rows) (suc i) x e o h is = answer_at f rows i x e o h is

greatest : (o : Ordering) → 2 ≤ ordering_index o → o ≡ Greater
greatest Less h = absurd (omega arith)
greatest Equal h = absurd (omega arith)
greatest Greater h = refl

least : (o : Ordering) → ordering_index o ≤ 0 → o ≡ Less
least Less h = refl
least Equal h = absurd (omega arith)
least Greater h = absurd (omega arith)

-- the part that is still to be searched, after this many steps
pub record IsNarrowed (os : List Ordering) (steps low high : ℕ) : Type 0 where
  pub low_le : low ≤ high
  pub high_le : high ≤ length os
  pub before : AllGreaterBefore os low
  pub after : AllLessFrom os high
  pub narrow : 2 ^ steps * (high - low) ≤ length os
  pub few : 2 ^ steps ≤ 2 * length os + 1

-- one step more halves what is left
doubled : (t t' : ℕ) → t' ≡ t + 1 → 2 ^ t' ≡ 2 * 2 ^ t
doubled t t' e = rw e (rw add-one (pow-succ' 2 t))

halved : (p p' wide half n : ℕ) → p' ≡ 2 * p → p * wide ≤ n → 2 * half ≤ wide → p' * half ≤ n
halved p p' wide half n e h le = rw e (omega (arith, mul-le-mul_left p le))

one_more : (p p' wide n : ℕ) → p' ≡ 2 * p → p * wide ≤ n → 1 ≤ wide → p' ≤ 2 * n + 1
one_more p p' wide n e h le = omega (arith, mul-le-mul_left p le)

module _ (os : List Ordering) (falls : AnswersFall os) (t t' low high at : ℕ) (narrowed : IsNarrowed os t low high) (one_step : t' ≡ t + 1) (low_le : low ≤ at) (at_lt : at < high) where
  all_greater : get_or os at Equal ≡ Greater → AllGreaterBefore os (at + 1)
  all_greater greater k lt = greatest (get_or os k Equal) (let h : ordering_index (get_or os at Equal) ≤ ordering_index (get_or os k Equal) = falls k at (omega arith) (omega (arith, narrowed.high_le)) in let e : ordering_index (get_or os at Equal) ≡ 2 = ap ordering_index greater in omega arith)

  all_less : get_or os at Equal ≡ Less → AllLessFrom os at
  all_less less k le lt = least (get_or os k Equal) (let h : ordering_index (get_or os k Equal) ≤ ordering_index (get_or os at Equal) = falls at k le lt in let e : ordering_index (get_or os at Equal) ≡ 0 = ap ordering_index less in omega arith)

  is_few : 2 ^ t' ≤ 2 * length os + 1
  is_few = one_more (2 ^ t) (2 ^ t') (high - low) (length os) (doubled t t' one_step) narrowed.narrow (omega arith)

  -- the row that was read is after the sort key sought
  pub narrowed_below : get_or os at Equal ≡ Less → 2 * (at - low) ≤ high - low → IsNarrowed os t' low at
  narrowed_below less half = record {
    low_le = low_le;
    high_le = omega (arith, narrowed.high_le);
    before = narrowed.before;
    after = all_less less;
    narrow = halved (2 ^ t) (2 ^ t') (high - low) (at - low) (length os) (doubled t t' one_step) narrowed.narrow half;
    few = is_few;
  }

  -- the row that was read is before the sort key sought
  pub narrowed_above : get_or os at Equal ≡ Greater → 2 * (high - (at + 1)) ≤ high - low → IsNarrowed os t' (at + 1) high
  narrowed_above greater half = record {
    low_le = omega arith;
    high_le = narrowed.high_le;
    before = all_greater greater;
    after = narrowed.after;
    narrow = halved (2 ^ t) (2 ^ t') (high - low) (high - (at + 1)) (length os) (doubled t t' one_step) narrowed.narrow half;
    few = is_few;
  }

-- ---- The rows that are `Equal` stand together

ne_greater : (o : Ordering) → is_ne o ≡ true → 1 ≤ ordering_index o → 2 ≤ ordering_index o
ne_greater Less ne le = absurd (omega arith)
ne_greater Equal ne le = absurd (false≢true ne)
ne_greater Greater ne le = omega arith

ne_less : (o : Ordering) → is_ne o ≡ true → ordering_index o ≤ 1 → ordering_index o ≤ 0
ne_less Less ne le = omega arith
ne_less Equal ne le = absurd (false≢true ne)
ne_less Greater ne le = absurd (omega arith)

pub not_ne : (o : Ordering) → is_ne o ≡ false → o ≡ Equal
not_ne Less h = absurd (false≢true (sym h))
not_ne Equal h = refl
not_ne Greater h = absurd (false≢true (sym h))

module _ (os : List Ordering) (falls : AnswersFall os) (at : ℕ) (in_range : at < length os) (meets : get_or os at Less ≡ Equal) where
  one_at : ordering_index (get_or os at Equal) ≡ 1
  one_at = ap ordering_index (get_or_default os at Equal Less in_range ∙ meets)

  -- a row below that isn't `Equal` ends them
  pub ended_below : (below : ℕ) → below < at → is_ne (get_or os below Equal) ≡ true → AllGreaterBefore os (below + 1)
  ended_below below lt ne k le =
      let h : ordering_index (get_or os at Equal) ≤ ordering_index (get_or os below Equal) = falls below at (omega arith) in_range in
      let g : 2 ≤ ordering_index (get_or os below Equal) = ne_greater (get_or os below Equal) ne (omega (arith, one_at)) in
      let f : ordering_index (get_or os below Equal) ≤ ordering_index (get_or os k Equal) = falls k below (omega arith) (omega arith) in
      greatest (get_or os k Equal) (omega arith)

  -- a row above that isn't `Equal` ends them
  pub ended_past : (past : ℕ) → at < past → past < length os → is_ne (get_or os past Equal) ≡ true → AllLessFrom os past
  ended_past past lt within ne k le high =
      let h : ordering_index (get_or os past Equal) ≤ ordering_index (get_or os at Equal) = falls at past (omega arith) within in
      let g : ordering_index (get_or os past Equal) ≤ 0 = ne_less (get_or os past Equal) ne (omega (arith, one_at)) in
      let f : ordering_index (get_or os k Equal) ≤ ordering_index (get_or os past Equal) = falls past k le high in
      least (get_or os k Equal) (omega arith)

-- one more of them below, and one more above
pub equal_below : (os : List Ordering) (below first at : ℕ) → AllEqualWithin os first at → below + 1 ≡ first → get_or os below Less ≡ Equal → AllEqualWithin os below at
equal_below os below first at within e met k le lt = elim (cases_lt below k) [
  | inl above ↦ within k (omega arith) lt
  | inr same ↦ (let is : below ≡ k = omega arith in subst (λ i. get_or os i Less ≡ Equal) is met)
]

pub equal_past : (os : List Ordering) (at past : ℕ) → AllEqualWithin os at past → get_or os past Less ≡ Equal → AllEqualWithin os at (past + 1)
equal_past os at past within met k le lt = elim (cases_lt k past) [
  | inl before ↦ within k le before
  | inr same ↦ (let is : past ≡ k = omega arith in subst (λ i. get_or os i Less ≡ Equal) is met)
]

pub joined_equal : (os : List Ordering) (i at j : ℕ) → AllEqualWithin os i at → AllEqualWithin os at j → AllEqualWithin os i j
joined_equal os i at j first second k le lt = elim (cases_lt k at) [ inl before ↦ first k le before | inr after ↦ second k after lt ]

-- the steps beyond one for each row, where the rows were met in a part this wide
pub stretch_cost : (u wide n t : ℕ) → 2 ^ u * wide ≤ n → 1 ≤ wide → t ≤ u + 2 → (wide ≡ 1 → t ≤ u) → 2 ^ t ≤ 2 * n + 1
stretch_cost u wide n t narrow some few single = elim (cases_lt 1 wide) [
  | inl more ↦ omega (arith, pow_mono {i = t} {j = u + 2} few, doubled (u + 1) (u + 2) (omega arith), doubled u (u + 1) refl, mul-le-mul_left (2 ^ u) more)
  | inr one ↦ (let is : wide ≡ 1 = omega arith in omega (arith, pow_mono {i = t} {j = u} (single is), mul-le-mul_left (2 ^ u) some))
]
