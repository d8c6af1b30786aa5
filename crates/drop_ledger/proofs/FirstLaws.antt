-- The rows of the sort keys that appear first, with one sort key more.
use Rattle.std.proofs.Common.{◌≡◌, ℕ, ◌+◌, ◌≤◌, ◌<◌, Bool, true, false, cond, ◌||◌, List, [], ◌∷◌, ◌++◌, length, take, Option, Some, None, refl, sym, ap, subst, ◌∙◌, arith, length-append}
use Rattle.std.specs.Option.{option_map}
use Rattle.std.proofs.lemmas.Option.{none-some}
use Rattle.std.proofs.Math.Bool.{or-false}
use Rattle.base_rows.specs.Sortable.{same_sort_key, SortKeysAscend, row_at, set_row}
use Rattle.base_rows.proofs.SortableLaws.{same_sort_key_exact, row_at-set_row}
use Rattle.base_rows.proofs.RowLaws.{sort_key_row_at}
use Rattle.drop_ledger.specs.Counted.{SortKey, count_of, is_of, total}
use Rattle.drop_ledger.proofs.CountLaws.{sort_key_turned, count_more, count_none, positive, positive_more, positive_some, weight, total_set}
use Rattle.drop_ledger.proofs.KeptLaws.{of_own, appeared, not_appeared, kept_again, kept_new, kept_late, kept_all, again_at, late_at, kept_grown, new_at}
use Rattle.drop_ledger.proofs.Parts.{kept_of, is_kept}

-- Each row counts a sort key that is kept among those that begin with the same `len` numbers, and of each beginning there
-- are as many rows as sort keys are kept.
pub record AreFirstCounts {R : Type 0} (sort_key : R → SortKey) (count : R → ℕ) (len most : ℕ) (ps : List SortKey) (rows : List R) : Type 0 where
  pub at : (p : SortKey) → len ≤ length p → option_map count (row_at sort_key p rows) ≡ cond (is_kept most (take len p) ps p) (positive (count_of p ps)) None
  pub under : (t : SortKey) → length t ≡ len → total (λ r. cond (is_of t (sort_key r)) 1 0) rows ≡ length (kept_of most t ps)

-- ---- Rows

shorter : {R : Type 0} (sort_key : R → SortKey) (f : R → ℕ) (row : R) (rows : List R) → SortKeysAscend sort_key rows → (n : ℕ) → weight f (row_at sort_key (sort_key row) rows) ≡ n → total f (set_row sort_key row rows) + n ≡ total f rows + f row
shorter sort_key f row rows up n is = ap (λ k. total f (set_row sort_key row rows) + k) (sym is) ∙ total_set sort_key f row rows up

module _ {R : Type 0} (sort_key : R → SortKey) (count : R → ℕ) where
  abbrev one_in : SortKey → R → ℕ
  one_in t r = cond (is_of t (sort_key r)) 1 0

  -- what stands at a sort key begins as it does
  one_at : (t p : SortKey) (o : Option R) (n : ℕ) → ((r : R) → o ≡ Some r → sort_key r ≡ p) → option_map count o ≡ Some n → weight (one_in t) o ≡ cond (is_of t p) 1 0
  unfolding weight
  one_at t p None n keyed e = absurd (none-some n e)
  one_at t p (Some r) n keyed e = ap (λ q. cond (is_of t q) 1 0) (keyed r refl)

  none_at : (t : SortKey) (o : Option R) → option_map count o ≡ None → weight (one_in t) o ≡ 0
  unfolding weight
  none_at t None e = refl
  none_at t (Some r) e = absurd (none-some (count r) (sym e))

  module _ (len most : ℕ) (ps : List SortKey) (row : R) (rows : List R) (up : SortKeysAscend sort_key rows) (are : AreFirstCounts sort_key count len most ps rows) (long : len ≤ length (sort_key row)) where
    abbrev q : SortKey
    q = sort_key row

    abbrev own : SortKey
    own = take len q

    yes_own : is_of own q ≡ true
    yes_own = of_own len q long

    -- ---- A sort key that is kept already

    again_by : is_kept most own ps q ≡ true → count row ≡ count_of q ps + 1 → (p : SortKey) → len ≤ length p → (b : Bool) → same_sort_key q p ≡ b
        → option_map count (cond b (Some row) (row_at sort_key p rows)) ≡ cond (is_kept most (take len p) ps p) (positive (count_of p ps + cond b 1 0)) None
    again_by kept more p long' true e =
        subst (λ r. Some (count row) ≡ cond (is_kept most (take len r) ps r) (positive (count_of r ps + 1)) None) (same_sort_key_exact q p e)
        (ap Some more ∙ sym (positive_more (count_of q ps)) ∙ ap (λ b. cond b (positive (count_of q ps + 1)) None) (sym kept))
    again_by kept more p long' false e = are.at p long' ∙ ap (λ n. cond (is_kept most (take len p) ps p) (positive n) None) {x = count_of p ps} {y = count_of p ps + 0} (omega arith)

    there : is_kept most own ps q ≡ true → (n : ℕ) → positive (count_of q ps) ≡ Some n → option_map count (row_at sort_key q rows) ≡ Some n
    there kept n e = are.at q long ∙ ap (λ b. cond b (positive (count_of q ps)) None) kept ∙ e

    keyed : (r : R) → row_at sort_key q rows ≡ Some r → sort_key r ≡ q
    keyed r e = sort_key_row_at sort_key q rows r e

    pub again : is_kept most own ps q ≡ true → count row ≡ count_of q ps + 1 → AreFirstCounts sort_key count len most (ps ++ q ∷ []) (set_row sort_key row rows)
    again kept more =
        let same : kept_of most own (ps ++ q ∷ []) ≡ kept_of most own ps = kept_again most own q ps yes_own kept in
        let number : (n : ℕ) × (positive (count_of q ps) ≡ Some n) = positive_some q ps (appeared len most ps q long kept) in
        record {
          at = λ p long'.
              ap (option_map count) (row_at-set_row sort_key row rows p)
              ∙ again_by kept more p long' (same_sort_key q p) refl
              ∙ (λ i. cond (sym (again_at len most ps q long kept p long') i) (positive (count_of p ps + cond (sort_key_turned q p i) 1 0)) None)
              ∙ ap (λ n. cond (is_kept most (take len p) (ps ++ q ∷ []) p) (positive n) None) (sym (count_more p q ps));
          under = λ t at.
              let weighs = one_at t q (row_at sort_key q rows) number.0 keyed (there kept number.0 number.1) in
              cancel (total (one_in t) (set_row sort_key row rows)) (total (one_in t) rows) (cond (is_of t q) 1 0) (shorter sort_key (one_in t) row rows up (cond (is_of t q) 1 0) weighs)
              ∙ are.under t at ∙ ap length (sym (kept_all len most ps q long same t at));
        }
      where
        cancel : (a b c : ℕ) → a + c ≡ b + c → a ≡ b
        cancel a b c e = omega arith

    -- ---- A sort key that didn't appear yet

    new_by : is_kept most own ps q ≡ false → length (kept_of most own ps) < most → count row ≡ 1 → (p : SortKey) → len ≤ length p → (b : Bool) → same_sort_key q p ≡ b
        → option_map count (cond b (Some row) (row_at sort_key p rows)) ≡ cond (is_kept most (take len p) ps p || b) (positive (count_of p ps + cond b 1 0)) None
    new_by apart few one p long' true e =
        let none : count_of q ps ≡ 0 = count_none q ps (not_appeared len most ps q long apart few) in
        subst (λ r. Some (count row) ≡ cond (is_kept most (take len r) ps r || true) (positive (count_of r ps + 1)) None) (same_sort_key_exact q p e)
        (ap Some one ∙ sym (positive_more 0) ∙ (λ i. cond (or_true (is_kept most own ps q) i) (positive (sym none i + 1)) None))
      where
        or_true : (b : Bool) → true ≡ (b || true)
        or_true true = refl
        or_true false = refl
    new_by apart few one p long' false e =
        are.at p long' ∙ (λ i. cond (sym (or-false (is_kept most (take len p) ps p)) i) (positive (plus_none (count_of p ps) i)) None)
      where
        plus_none : (n : ℕ) → n ≡ n + 0
        plus_none n = omega arith

    pub new : is_kept most own ps q ≡ false → length (kept_of most own ps) < most → count row ≡ 1 → AreFirstCounts sort_key count len most (ps ++ q ∷ []) (set_row sort_key row rows)
    new apart few one =
        let grown : kept_of most own (ps ++ q ∷ []) ≡ kept_of most own ps ++ q ∷ [] = kept_new most own q ps yes_own apart few in
        let missing : option_map count (row_at sort_key q rows) ≡ None = are.at q long ∙ ap (λ b. cond b (positive (count_of q ps)) None) apart in
        record {
          at = λ p long'.
              ap (option_map count) (row_at-set_row sort_key row rows p)
              ∙ new_by apart few one p long' (same_sort_key q p) refl
              ∙ (λ i. cond (sym (new_at len most ps q long apart few p long') i) (positive (count_of p ps + cond (sort_key_turned q p i) 1 0)) None)
              ∙ ap (λ n. cond (is_kept most (take len p) (ps ++ q ∷ []) p) (positive n) None) (sym (count_more p q ps));
          under = λ t at.
              plus_none (total (one_in t) (set_row sort_key row rows))
              ∙ shorter sort_key (one_in t) row rows up 0 (none_at t (row_at sort_key q rows) missing)
              ∙ ap (λ n. n + cond (is_of t q) 1 0) (are.under t at)
              ∙ sym (ap length (kept_grown len most ps q long grown t at) ∙ length-append (kept_of most t ps) (cond (is_of t q) (q ∷ []) []) ∙ ap (λ n. length (kept_of most t ps) + n) (one_if (is_of t q)));
        }
      where
        plus_none : (n : ℕ) → n ≡ n + 0
        plus_none n = omega arith

        one_if : (b : Bool) → length (cond b (q ∷ []) []) ≡ cond b 1 0
        one_if true = refl
        one_if false = refl

  -- ---- A sort key that comes too late

  module _ (len most : ℕ) (ps : List SortKey) (q : SortKey) (rows : List R) (are : AreFirstCounts sort_key count len most ps rows) (long : len ≤ length q) where
    late_by : is_kept most (take len q) ps q ≡ false → (p : SortKey) → len ≤ length p → (b : Bool) → same_sort_key q p ≡ b
        → cond (is_kept most (take len p) ps p) (positive (count_of p ps)) None ≡ cond (is_kept most (take len p) ps p) (positive (count_of p ps + cond b 1 0)) None
    late_by apart p long' true e =
        subst (λ r. cond (is_kept most (take len r) ps r) (positive (count_of r ps)) None ≡ cond (is_kept most (take len r) ps r) (positive (count_of r ps + 1)) None) (same_sort_key_exact q p e)
        (ap (λ b. cond b (positive (count_of q ps)) None) apart ∙ sym (ap (λ b. cond b (positive (count_of q ps + 1)) None) apart))
    late_by apart p long' false e = ap (λ n. cond (is_kept most (take len p) ps p) (positive n) None) {x = count_of p ps} {y = count_of p ps + 0} (omega arith)

    pub late : is_kept most (take len q) ps q ≡ false → most ≤ length (kept_of most (take len q) ps) → AreFirstCounts sort_key count len most (ps ++ q ∷ []) rows
    late apart full = record {
      at = λ p long'.
          are.at p long' ∙ late_by apart p long' (same_sort_key q p) refl
          ∙ (λ i. cond (sym (late_at len most ps q long full p long') i) (positive (count_of p ps + cond (sort_key_turned q p i) 1 0)) None)
          ∙ ap (λ n. cond (is_kept most (take len p) (ps ++ q ∷ []) p) (positive n) None) (sym (count_more p q ps));
      under = λ t at. are.under t at ∙ ap length (sym (kept_all len most ps q long (kept_late most (take len q) q ps (of_own len q long) full) t at));
    }
