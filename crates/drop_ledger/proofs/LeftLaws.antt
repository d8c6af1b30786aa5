-- The sort keys that are left out, and what adds up.
use Rattle.std.proofs.Common.{◌≡◌, ℕ, zero, suc, ◌+◌, ◌≤◌, ◌<◌, Bool, true, false, cond, not, ◌||◌, List, [], ◌∷◌, ◌++◌, length, take, Option, Some, None, refl, sym, ap, subst, ◌∙◌, arith, length-append}
use Rattle.std.specs.List.{filter, list_any}
use Rattle.std.specs.Option.{option_map}
use Rattle.std.proofs.lemmas.Option.{same_Some, none-some}
use Rattle.std.proofs.lemmas.List.Elements.{filter-append}
use Rattle.std.proofs.lemmas.List.Folds.{list_any-append}
use Rattle.std.proofs.Math.Bool.{or-false, or-true}
use Rattle.std.proofs.lemmas.List.{append-nil}
use Rattle.base_rows.specs.Sortable.{same_sort_key, SortKeysAscend, row_at, set_row}
use Rattle.base_rows.proofs.SortableLaws.{same_sort_key_itself}
use Rattle.base_rows.proofs.RowLaws.{sort_key_row_at}
use Rattle.base_rows.proofs.ListTests.{or_first, or_second}
use Rattle.drop_ledger.specs.Counted.{SortKey, count_of, is_of, those_of, total, sum_of}
use Rattle.drop_ledger.proofs.CountLaws.{sort_key_turned, positive, weight, total_set, one_if}
use Rattle.drop_ledger.proofs.KeptLaws.{those_more, kept_other, kept_again, kept_new, kept_late, unseen, of_own, is_own}
use Rattle.drop_ledger.proofs.FirstLaws.{AreFirstCounts}
use Rattle.drop_ledger.proofs.Parts.{kept_of, is_kept}

-- the sort keys that begin so and aren't kept, each as often as it appears
unfoldable pub left_of : ℕ → SortKey → List SortKey → List SortKey
left_of most t ps = filter (λ p. not (is_kept most t ps p)) (those_of t ps)

-- the counts of a beginning and the sort keys that are left out are all sort keys that begin so
pub record AddUp {R : Type 0} (sort_key : R → SortKey) (count : R → ℕ) (len most : ℕ) (ps : List SortKey) (rows : List R) : Type 0 where
  pub at : (t : SortKey) → length t ≡ len → sum_of sort_key count t rows + length (left_of most t ps) ≡ length (those_of t ps)

same_filter : (p q : SortKey → Bool) (xs : List SortKey) → ((x : SortKey) → p x ≡ q x) → filter p xs ≡ filter q xs
same_filter p q [] same = refl
same_filter p q (x ∷ xs) same = (λ i. cond (same x i) (x ∷ filter p xs) (filter p xs)) ∙ ap (λ l. cond (q x) (x ∷ l) l) (same_filter p q xs same)

-- one sort key more that is kept changes nothing of a list that hasn't it
except_by : (k : SortKey → Bool) (q x : SortKey) (xs : List SortKey) → same_sort_key q x ≡ false → filter (λ p. not (k p || same_sort_key p q)) xs ≡ filter (λ p. not (k p)) xs
    → cond (not (k x || same_sort_key x q)) (x ∷ filter (λ p. not (k p || same_sort_key p q)) xs) (filter (λ p. not (k p || same_sort_key p q)) xs) ≡ cond (not (k x)) (x ∷ filter (λ p. not (k p)) xs) (filter (λ p. not (k p)) xs)
except_by k q x xs apart rest =
    (λ i. cond (not (differ i)) (x ∷ rest i) (rest i))
  where
    differ : (k x || same_sort_key x q) ≡ k x
    differ = ap (λ b. k x || b) (sort_key_turned x q ∙ apart) ∙ or-false (k x)

except : (k : SortKey → Bool) (q : SortKey) (xs : List SortKey) → list_any (same_sort_key q) xs ≡ false → filter (λ p. not (k p || same_sort_key p q)) xs ≡ filter (λ p. not (k p)) xs
except k q [] apart = refl
except k q (x ∷ xs) apart = except_by k q x xs (or_first (same_sort_key q x) (list_any (same_sort_key q) xs) apart) (except k q xs (or_second (same_sort_key q x) (list_any (same_sort_key q) xs) apart))

pub those_count : (t q : SortKey) (ps : List SortKey) → length (those_of t (ps ++ q ∷ [])) ≡ length (those_of t ps) + cond (is_of t q) 1 0
those_count t q ps = ap length (those_more t q ps) ∙ length-append (those_of t ps) (cond (is_of t q) (q ∷ []) []) ∙ ap (λ n. length (those_of t ps) + n) (one_if (is_of t q) q)

module _ (len most : ℕ) (ps : List SortKey) (q : SortKey) (long : len ≤ length q) where
  abbrev own : SortKey
  own = take len q

  abbrev left_kept : (SortKey → Bool) → List SortKey → List SortKey
  left_kept k xs = filter (λ p. not (k p)) xs

  other_left : (t : SortKey) → is_of t q ≡ false → left_of most t (ps ++ q ∷ []) ≡ left_of most t ps
  unfolding left_of
  other_left t apart =
      (λ i. left_kept (λ p. list_any (same_sort_key p) (kept_other most t q ps apart i)) (those_of t (ps ++ q ∷ [])))
      ∙ ap (left_kept (is_kept most t ps)) (those_more t q ps ∙ ap (λ b. those_of t ps ++ cond b (q ∷ []) []) apart ∙ append-nil (those_of t ps))

  -- with the sort keys that are kept as they were, the sort key counts where it isn't kept
  same_left : (t : SortKey) → is_of t q ≡ true → kept_of most t (ps ++ q ∷ []) ≡ kept_of most t ps → left_of most t (ps ++ q ∷ []) ≡ left_of most t ps ++ cond (not (is_kept most t ps q)) (q ∷ []) []
  unfolding left_of
  same_left t of same =
      (λ i. left_kept (λ p. list_any (same_sort_key p) (same i)) (those_of t (ps ++ q ∷ [])))
      ∙ ap (left_kept (is_kept most t ps)) (those_more t q ps ∙ ap (λ b. those_of t ps ++ cond b (q ∷ []) []) of)
      ∙ filter-append (λ p. not (is_kept most t ps p)) (those_of t ps) (q ∷ [])

  again_own : is_kept most own ps q ≡ true → left_of most own (ps ++ q ∷ []) ≡ left_of most own ps
  again_own kept =
      same_left own (of_own len q long) (kept_again most own q ps (of_own len q long) kept)
      ∙ ap (λ b. left_of most own ps ++ cond (not b) (q ∷ []) []) kept ∙ append-nil (left_of most own ps)

  new_own : is_kept most own ps q ≡ false → length (kept_of most own ps) < most → left_of most own (ps ++ q ∷ []) ≡ left_of most own ps
  unfolding left_of
  new_own apart few =
      let grown : kept_of most own (ps ++ q ∷ []) ≡ kept_of most own ps ++ q ∷ [] = kept_new most own q ps (of_own len q long) apart few in
      same_filter (λ p. not (list_any (same_sort_key p) (kept_of most own (ps ++ q ∷ [])))) (λ p. not (is_kept most own ps p || same_sort_key p q)) (those_of own (ps ++ q ∷ []))
      (λ p. ap not (ap (list_any (same_sort_key p)) grown ∙ list_any-append (same_sort_key p) (kept_of most own ps) (q ∷ []) ∙ ap (λ b. list_any (same_sort_key p) (kept_of most own ps) || b) (or-false (same_sort_key p q))))
      ∙ ap (filter (λ p. not (is_kept most own ps p || same_sort_key p q))) (those_more own q ps ∙ ap (λ b. those_of own ps ++ cond b (q ∷ []) []) (of_own len q long))
      ∙ filter-append (λ p. not (is_kept most own ps p || same_sort_key p q)) (those_of own ps) (q ∷ [])
      ∙ ap (λ b. filter (λ p. not (is_kept most own ps p || same_sort_key p q)) (those_of own ps) ++ cond (not b) (q ∷ []) []) (ap (λ b. is_kept most own ps q || b) (same_sort_key_itself q) ∙ or-true (is_kept most own ps q))
      ∙ append-nil (filter (λ p. not (is_kept most own ps p || same_sort_key p q)) (those_of own ps))
      ∙ except (is_kept most own ps) q (those_of own ps) (unseen most own q ps (of_own len q long) apart few)

  late_own : is_kept most own ps q ≡ false → most ≤ length (kept_of most own ps) → left_of most own (ps ++ q ∷ []) ≡ left_of most own ps ++ q ∷ []
  late_own apart full =
      same_left own (of_own len q long) (kept_late most own q ps (of_own len q long) full)
      ∙ ap (λ b. left_of most own ps ++ cond (not b) (q ∷ []) []) apart

  pub left_again : (t : SortKey) → length t ≡ len → is_kept most own ps q ≡ true → length (left_of most t (ps ++ q ∷ [])) ≡ length (left_of most t ps)
  left_again t at kept = by (is_of t q) refl
    where
      by : (b : Bool) → is_of t q ≡ b → length (left_of most t (ps ++ q ∷ [])) ≡ length (left_of most t ps)
      by true e = subst (λ u. length (left_of most u (ps ++ q ∷ [])) ≡ length (left_of most u ps)) (sym (is_own len q long t at e)) (ap length (again_own kept))
      by false e = ap length (other_left t e)

  pub left_new : (t : SortKey) → length t ≡ len → is_kept most own ps q ≡ false → length (kept_of most own ps) < most → length (left_of most t (ps ++ q ∷ [])) ≡ length (left_of most t ps)
  left_new t at apart few = by (is_of t q) refl
    where
      by : (b : Bool) → is_of t q ≡ b → length (left_of most t (ps ++ q ∷ [])) ≡ length (left_of most t ps)
      by true e = subst (λ u. length (left_of most u (ps ++ q ∷ [])) ≡ length (left_of most u ps)) (sym (is_own len q long t at e)) (ap length (new_own apart few))
      by false e = ap length (other_left t e)

  pub left_late : (t : SortKey) → length t ≡ len → is_kept most own ps q ≡ false → most ≤ length (kept_of most own ps) → length (left_of most t (ps ++ q ∷ [])) ≡ length (left_of most t ps) + cond (is_of t q) 1 0
  left_late t at apart full = by (is_of t q) refl
    where
      plus_none : (n : ℕ) → n ≡ n + 0
      plus_none n = omega arith

      by : (b : Bool) → is_of t q ≡ b → length (left_of most t (ps ++ q ∷ [])) ≡ length (left_of most t ps) + cond b 1 0
      by true e = subst (λ u. length (left_of most u (ps ++ q ∷ [])) ≡ length (left_of most u ps) + 1) (sym (is_own len q long t at e)) (ap length (late_own apart full) ∙ length-append (left_of most own ps) (q ∷ []))
      by false e = ap length (other_left t e) ∙ plus_none (length (left_of most t ps))

-- ---- What adds up

module _ {R : Type 0} (sort_key : R → SortKey) (count : R → ℕ) where
  abbrev counted_in : SortKey → R → ℕ
  counted_in t r = cond (is_of t (sort_key r)) (count r) 0

  weighs : (t p : SortKey) (o : Option R) (n : ℕ) → ((r : R) → o ≡ Some r → sort_key r ≡ p) → option_map count o ≡ positive n → weight (counted_in t) o ≡ cond (is_of t p) n 0
  unfolding weight positive
  weighs t p None zero keyed e = either (is_of t p) 0
    where
      either : (b : Bool) (n : ℕ) → n ≡ cond b n n
      either true n = refl
      either false n = refl
  weighs t p None (suc n) keyed e = absurd (none-some (suc n) e)
  weighs t p (Some r) zero keyed e = absurd (none-some (count r) (sym e))
  weighs t p (Some r) (suc n) keyed e = λ i. cond (is_of t (keyed r refl i)) (same_Some (count r) (suc n) e i) 0

  grown : (b : Bool) (s s' m k left those : ℕ) → k ≡ m + 1 → s' + cond b m 0 ≡ s + cond b k 0 → s + left ≡ those → s' + left ≡ those + cond b 1 0
  grown true s s' m k left those more e f = omega arith
  grown false s s' m k left those more e f = omega arith

  module _ (len most : ℕ) (ps : List SortKey) (row : R) (rows : List R) (up : SortKeysAscend sort_key rows) (are : AreFirstCounts sort_key count len most ps rows) (add : AddUp sort_key count len most ps rows) (long : len ≤ length (sort_key row)) where
    abbrev q : SortKey
    q = sort_key row

    keyed : (r : R) → row_at sort_key q rows ≡ Some r → sort_key r ≡ q
    keyed r e = sort_key_row_at sort_key q rows r e

    changed : (t : SortKey) (n : ℕ) → option_map count (row_at sort_key q rows) ≡ positive n → total (counted_in t) (set_row sort_key row rows) + cond (is_of t q) n 0 ≡ total (counted_in t) rows + cond (is_of t q) (count row) 0
    changed t n is = ap (λ k. total (counted_in t) (set_row sort_key row rows) + k) (sym (weighs t q (row_at sort_key q rows) n keyed is)) ∙ total_set sort_key (counted_in t) row rows up

    pub again_adds : is_kept most (take len q) ps q ≡ true → count row ≡ count_of q ps + 1 → AddUp sort_key count len most (ps ++ q ∷ []) (set_row sort_key row rows)
    unfolding sum_of
    again_adds kept more = record {
      at = λ t at.
          let is : option_map count (row_at sort_key q rows) ≡ positive (count_of q ps) = are.at q long ∙ ap (λ b. cond b (positive (count_of q ps)) None) kept in
          ap (λ n. total (counted_in t) (set_row sort_key row rows) + n) (left_again len most ps q long t at kept)
          ∙ grown (is_of t q) (total (counted_in t) rows) (total (counted_in t) (set_row sort_key row rows)) (count_of q ps) (count row) (length (left_of most t ps)) (length (those_of t ps)) more (changed t (count_of q ps) is) (add.at t at)
          ∙ sym (those_count t q ps);
    }

    pub new_adds : is_kept most (take len q) ps q ≡ false → length (kept_of most (take len q) ps) < most → count row ≡ 1 → AddUp sort_key count len most (ps ++ q ∷ []) (set_row sort_key row rows)
    unfolding sum_of positive
    new_adds apart few one = record {
      at = λ t at.
          let is : option_map count (row_at sort_key q rows) ≡ positive 0 = are.at q long ∙ ap (λ b. cond b (positive (count_of q ps)) None) apart in
          ap (λ n. total (counted_in t) (set_row sort_key row rows) + n) (left_new len most ps q long t at apart few)
          ∙ grown (is_of t q) (total (counted_in t) rows) (total (counted_in t) (set_row sort_key row rows)) 0 (count row) (length (left_of most t ps)) (length (those_of t ps)) one (changed t 0 is) (add.at t at)
          ∙ sym (those_count t q ps);
    }

  module _ (len most : ℕ) (ps : List SortKey) (q : SortKey) (rows : List R) (add : AddUp sort_key count len most ps rows) (long : len ≤ length q) where
    pub late_adds : is_kept most (take len q) ps q ≡ false → most ≤ length (kept_of most (take len q) ps) → AddUp sort_key count len most (ps ++ q ∷ []) rows
    unfolding sum_of
    late_adds apart full = record {
      at = λ t at.
          ap (λ n. total (counted_in t) rows + n) (left_late len most ps q long t at apart full)
          ∙ plus (total (counted_in t) rows) (length (left_of most t ps)) (cond (is_of t q) 1 0) (length (those_of t ps)) (add.at t at)
          ∙ sym (those_count t q ps);
    }
      where
        plus : (a b c d : ℕ) → a + b ≡ d → a + (b + c) ≡ d + c
        plus a b c d e = omega arith
