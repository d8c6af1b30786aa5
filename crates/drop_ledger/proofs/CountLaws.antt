-- How often sort keys appear, and sums over rows.
use Rattle.std.proofs.Common.{◌≡◌, ℕ, zero, suc, ◌+◌, Bool, true, false, cond, ◌||◌, List, [], ◌∷◌, ◌++◌, length, Option, Some, None, refl, sym, ap, subst, ◌∙◌, arith, length-append}
use Rattle.std.specs.List.{filter, list_any}
use Rattle.std.specs.declared.cmp.Ordering.{Ordering}
use Rattle.std.specs.declared.cmp.Ordering.TheVariants.{Less, Equal, Greater}
use Rattle.std.proofs.lemmas.Bool.{false≢true}
use Rattle.std.proofs.lemmas.List.Elements.{filter-append}
use Rattle.base_rows.specs.Sortable.{sort_key_cmp, same_sort_key, SortKeysAbove, SortKeysAscend, row_at, set_row}
use Rattle.base_rows.proofs.SortableLaws.{sort_key_cmp_turned, same_sort_key-cmp, same_sort_key_exact, same_sort_key_itself, above_trans, row_at_above}
use Rattle.base_rows.proofs.ListTests.{both_ways, or_first, or_second}
use Rattle.drop_ledger.specs.Counted.{SortKey, count_of, total}

-- a number, and None for 0
unfoldable pub positive : ℕ → Option ℕ
positive zero = None
positive (suc n) = Some (suc n)

-- ---- Sort keys

pub sort_key_turned : (p q : SortKey) → same_sort_key p q ≡ same_sort_key q p
sort_key_turned p q = both_ways (same_sort_key p q) (same_sort_key q p)
    (λ e. subst (λ r. same_sort_key r p ≡ true) (same_sort_key_exact p q e) (same_sort_key_itself p))
    (λ e. subst (λ r. same_sort_key r q ≡ true) (same_sort_key_exact q p e) (same_sort_key_itself q))

-- ---- Counts

pub one_if : (b : Bool) (q : SortKey) → length (cond b (q ∷ []) []) ≡ cond b 1 0
one_if true q = refl
one_if false q = refl

pub count_more : (p q : SortKey) (ps : List SortKey) → count_of p (ps ++ q ∷ []) ≡ count_of p ps + cond (same_sort_key p q) 1 0
unfolding count_of
count_more p q ps = ap length (filter-append (same_sort_key p) ps (q ∷ [])) ∙ length-append (filter (same_sort_key p) ps) (filter (same_sort_key p) (q ∷ [])) ∙ ap (λ n. length (filter (same_sort_key p) ps) + n) (one_if (same_sort_key p q) q)

none_by : (p x : SortKey) (xs : List SortKey) → length (filter (same_sort_key p) xs) ≡ 0 → (b : Bool) → b ≡ false → length (cond b (x ∷ filter (same_sort_key p) xs) (filter (same_sort_key p) xs)) ≡ 0
none_by p x xs rest true e = absurd (false≢true (sym e))
none_by p x xs rest false e = rest

pub count_none : (p : SortKey) (ps : List SortKey) → list_any (same_sort_key p) ps ≡ false → count_of p ps ≡ 0
unfolding count_of
count_none p [] none = refl
count_none p (x ∷ xs) none = none_by p x xs (count_none p xs (or_second (same_sort_key p x) (list_any (same_sort_key p) xs) none)) (same_sort_key p x) (or_first (same_sort_key p x) (list_any (same_sort_key p) xs) none)

pub positive_more : (n : ℕ) → positive (n + 1) ≡ Some (n + 1)
unfolding positive
positive_more n = let e : n + 1 ≡ suc n = omega arith in ap positive e ∙ ap Some (sym e)

some_by : (p x : SortKey) (xs : List SortKey) (rest : list_any (same_sort_key p) xs ≡ true → (n : ℕ) × (positive (length (filter (same_sort_key p) xs)) ≡ Some n)) → (b : Bool) → (b || list_any (same_sort_key p) xs) ≡ true → (n : ℕ) × (positive (length (cond b (x ∷ filter (same_sort_key p) xs) (filter (same_sort_key p) xs))) ≡ Some n)
unfolding positive
some_by p x xs rest true e = (suc (length (filter (same_sort_key p) xs)), refl)
some_by p x xs rest false e = rest e

-- what appears has a number
pub positive_some : (p : SortKey) (ps : List SortKey) → list_any (same_sort_key p) ps ≡ true → (n : ℕ) × (positive (count_of p ps) ≡ Some n)
unfolding count_of
positive_some p [] e = absurd (false≢true e)
positive_some p (x ∷ xs) e = some_by p x xs (positive_some p xs) (same_sort_key p x) e

-- ---- Sums

unfoldable pub weight : {R : Type 0} → (R → ℕ) → Option R → ℕ
weight f None = 0
weight f (Some r) = f r

module _ {R : Type 0} (sort_key : R → SortKey) (f : R → ℕ) where
  total_first : (row x : R) (xs : List R) → SortKeysAbove sort_key (sort_key x) xs → total f (set_row sort_key row xs) + weight f (row_at sort_key (sort_key row) xs) ≡ total f xs + f row → (o : Ordering) → sort_key_cmp (sort_key row) (sort_key x) ≡ o
      → total f (elim o [ Less ↦ row ∷ (x ∷ xs) | Equal ↦ row ∷ xs | Greater ↦ x ∷ set_row sort_key row xs ]) + weight f (cond (same_sort_key (sort_key x) (sort_key row)) (Some x) (row_at sort_key (sort_key row) xs)) ≡ f x + total f xs + f row
  unfolding total weight
  total_first row x xs above rest Less e =
      let differ : same_sort_key (sort_key x) (sort_key row) ≡ false = same_sort_key-cmp (sort_key x) (sort_key row) Greater (sort_key_cmp_turned (sort_key row) (sort_key x) Less e) in
      let none : row_at sort_key (sort_key row) xs ≡ None = row_at_above sort_key (sort_key row) xs (above_trans sort_key (sort_key row) (sort_key x) xs e above) in
      (λ i. f row + (f x + total f xs) + weight f (cond (differ i) (Some x) (none i))) ∙ turned (f row) (f x) (total f xs)
    where
      turned : (a b c : ℕ) → a + (b + c) + 0 ≡ b + c + a
      turned a b c = omega arith
  total_first row x xs above rest Equal e =
      let equal : same_sort_key (sort_key x) (sort_key row) ≡ true = same_sort_key-cmp (sort_key x) (sort_key row) Equal (sort_key_cmp_turned (sort_key row) (sort_key x) Equal e) in
      (λ i. f row + total f xs + weight f (cond (equal i) (Some x) (row_at sort_key (sort_key row) xs))) ∙ turned (f row) (total f xs) (f x)
    where
      turned : (a b c : ℕ) → a + b + c ≡ c + b + a
      turned a b c = omega arith
  total_first row x xs above rest Greater e =
      let differ : same_sort_key (sort_key x) (sort_key row) ≡ false = same_sort_key-cmp (sort_key x) (sort_key row) Less (sort_key_cmp_turned (sort_key row) (sort_key x) Greater e) in
      (λ i. f x + total f (set_row sort_key row xs) + weight f (cond (differ i) (Some x) (row_at sort_key (sort_key row) xs))) ∙ joined (f x) (total f (set_row sort_key row xs)) (weight f (row_at sort_key (sort_key row) xs)) (total f xs) (f row) rest
    where
      joined : (a b c d g : ℕ) → b + c ≡ d + g → a + b + c ≡ a + d + g
      joined a b c d g h = omega arith

  -- a row takes the place of the one that stood there
  pub total_set : (row : R) (rows : List R) → SortKeysAscend sort_key rows → total f (set_row sort_key row rows) + weight f (row_at sort_key (sort_key row) rows) ≡ total f rows + f row
  unfolding total weight
  total_set row [] up = omega arith
  total_set row (x ∷ xs) up = total_first row x xs up.0 (total_set row xs up.1) (sort_key_cmp (sort_key row) (sort_key x)) refl
