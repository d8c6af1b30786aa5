-- The rows of the sort keys that appear first, and of the others together, with one row more.
use Rattle.std.proofs.Common.{◌≡◌, ℕ, zero, suc, ◌+◌, ◌≤◌, ◌<◌, ◌⊎◌, inl, inr, Bool, true, false, cond, not, ◌||◌, List, [], ◌∷◌, ◌++◌, length, take, map, Option, Some, None, refl, sym, ap, ◌∙◌, arith}
use Rattle.std.specs.List.{filter, list_any}
use Rattle.std.specs.Option.{option_map}
use Rattle.std.proofs.lemmas.List.{map-append, append-nil}
use Rattle.std.proofs.lemmas.List.Elements.{filter-append}
use Rattle.std.proofs.Math.Bool.{or-false, or-true}
use Rattle.base_rows.specs.Sortable.{same_sort_key, SortKeysAscend, row_at, set_row, set_rows}
use Rattle.base_rows.proofs.ListTests.{or_first, or_second}
use Rattle.base_rows.proofs.SortableLaws.{same_sort_key_exact, same_sort_key_itself, ascend-set_row, ascend-set_rows}
use Rattle.base_rows.proofs.RowLaws.{sort_key_row_at, ascend-filter}
use Rattle.base_rows.proofs.RowSets.{same_rows_by}
use Rattle.drop_ledger.specs.Counted.{SortKey, Kinds, AreKinds, count_of, count_rows, is_first, first_rows, late_rows}
use Rattle.drop_ledger.proofs.KeptLaws.{not_appeared, again_at, late_at, new_at}
use Rattle.drop_ledger.proofs.NumberLaws.{sort_keys_more, at_numbered, up_numbered, number_at, number_more, at_more, at_counted}
use Rattle.drop_ledger.proofs.Parts.{kept_of, is_kept, others_of}

-- ---- Lists

test_by : {R : Type 0} (x : R) (kept old : Option R) (b : Bool) → kept ≡ cond b old None → (c d : Bool) → (d ≡ true → c ≡ b) → cond c (cond d (Some x) kept) kept ≡ cond b (cond d (Some x) old) None
test_by x kept old b rest true true here = ap (λ a. cond a (Some x) None) (here refl)
test_by x kept old b rest true false here = rest
test_by x kept old b rest false true here = rest ∙ sym (ap (λ a. cond a old None) (here refl)) ∙ ap (λ a. cond a (Some x) None) (here refl)
test_by x kept old b rest false false here = rest

chosen_by : {R : Type 0} (sort_key : R → SortKey) (p : SortKey) (x : R) (xs : List R) (c : Bool) → row_at sort_key p (cond c (x ∷ xs) xs) ≡ cond c (cond (same_sort_key (sort_key x) p) (Some x) (row_at sort_key p xs)) (row_at sort_key p xs)
chosen_by sort_key p x xs true = refl
chosen_by sort_key p x xs false = refl

pub either : {A : Type 0} (b : Bool) (a : A) → a ≡ cond b a a
either true a = refl
either false a = refl

-- the row of a sort key among those that pass a test which the sort key decides
pub filter_at : {R : Type 0} (sort_key : R → SortKey) (test : R → Bool) (p : SortKey) (b : Bool) → ((r : R) → sort_key r ≡ p → test r ≡ b) → (rows : List R) → row_at sort_key p (filter test rows) ≡ cond b (row_at sort_key p rows) None
filter_at sort_key test p b is [] = either b None
filter_at sort_key test p b is (x ∷ xs) =
    chosen_by sort_key p x (filter test xs) (test x)
    ∙ test_by x (row_at sort_key p (filter test xs)) (row_at sort_key p xs) b (filter_at sort_key test p b is xs) (test x) (same_sort_key (sort_key x) p) (λ e. is x (same_sort_key_exact (sort_key x) p e))

pub same_tests : {A : Type 0} (p q : A → Bool) (xs : List A) → ((x : A) → p x ≡ q x) → filter p xs ≡ filter q xs
same_tests p q [] same = refl
same_tests p q (x ∷ xs) same = (λ i. cond (same x i) (x ∷ filter p xs) (filter p xs)) ∙ ap (λ l. cond (q x) (x ∷ l) l) (same_tests p q xs same)

-- the same where the tests agree at each row but those of a sort key that no row has
same_but : {R : Type 0} (sort_key : R → SortKey) (q : SortKey) (test test' : R → Bool) → ((r : R) → same_sort_key q (sort_key r) ≡ false → test r ≡ test' r) → (xs : List R) → list_any (same_sort_key q) (map sort_key xs) ≡ false → filter test xs ≡ filter test' xs
same_but sort_key q test test' same [] apart = refl
same_but sort_key q test test' same (x ∷ xs) apart =
    (λ i. cond (same x (or_first (same_sort_key q (sort_key x)) (list_any (same_sort_key q) (map sort_key xs)) apart) i) (x ∷ filter test xs) (filter test xs))
    ∙ ap (λ l. cond (test' x) (x ∷ l) l) (same_but sort_key q test test' same xs (or_second (same_sort_key q (sort_key x)) (list_any (same_sort_key q) (map sort_key xs)) apart))

pub below_or_not : (a b : ℕ) → (a < b) ⊎ (b ≤ a)
below_or_not zero zero = inr (omega arith)
below_or_not zero (suc b) = inl (omega arith)
below_or_not (suc a) zero = inr (omega arith)
below_or_not (suc a) (suc b) = elim (below_or_not a b) [ inl h ↦ inl (omega arith) | inr h ↦ inr (omega arith) ]

module _ {D O : Type 0} (k : Kinds D O) (are : AreKinds k) (stays : (n : ℕ) (d : D) → k.sort_key (k.counted n d) ≡ k.sort_key d) where
  abbrev sort_keys : List D → List SortKey
  sort_keys xs = map k.sort_key xs

  abbrev is_kept_in : List SortKey → SortKey → Bool
  is_kept_in ps p = is_kept k.most (take k.len p) ps p

  -- ---- The rows of the first sort keys

  first_at : (xs : List D) (p : SortKey) → row_at k.sort_key p (first_rows k xs) ≡ cond (is_kept_in (sort_keys xs) p) (option_map (k.counted (count_of p (sort_keys xs))) (row_at k.sort_key p (set_rows k.sort_key xs []))) None
  unfolding first_rows is_first
  first_at xs p =
      at_numbered k.sort_key k.counted stays (sort_keys xs) p (filter (is_first k (sort_keys xs)) (set_rows k.sort_key xs []))
      ∙ number_at k.sort_key k.counted stays (sort_keys xs) p (row_at k.sort_key p (filter (is_first k (sort_keys xs)) (set_rows k.sort_key xs []))) (λ r e. sort_key_row_at k.sort_key p (filter (is_first k (sort_keys xs)) (set_rows k.sort_key xs [])) r e)
      ∙ ap (option_map (k.counted (count_of p (sort_keys xs)))) (filter_at k.sort_key (is_first k (sort_keys xs)) p (is_kept_in (sort_keys xs) p) (λ r e. ap (is_kept_in (sort_keys xs)) e) (set_rows k.sort_key xs []))
      ∙ mapped (is_kept_in (sort_keys xs) p) (row_at k.sort_key p (set_rows k.sort_key xs []))
    where
      mapped : (b : Bool) (o : Option D) → option_map (k.counted (count_of p (sort_keys xs))) (cond b o None) ≡ cond b (option_map (k.counted (count_of p (sort_keys xs))) o) None
      mapped true o = refl
      mapped false o = refl

  pub first_ascend : (xs : List D) → SortKeysAscend k.sort_key (first_rows k xs)
  unfolding first_rows
  first_ascend xs = up_numbered k.sort_key k.counted stays (sort_keys xs) (filter (is_first k (sort_keys xs)) (set_rows k.sort_key xs [])) (ascend-filter k.sort_key (is_first k (sort_keys xs)) (set_rows k.sort_key xs []) (ascend-set_rows k.sort_key xs [] tt))

  module _ (xs : List D) (x : D) where
    abbrev ps : List SortKey
    ps = sort_keys xs

    abbrev q : SortKey
    q = k.sort_key x

    abbrev own : SortKey
    own = take k.len q

    long : k.len ≤ length q
    long = are.long x

    abbrev next : D
    next = k.counted (count_of q ps + 1) x

    abbrev row_of : SortKey → Option D
    row_of p = option_map (k.counted (count_of p ps)) (row_at k.sort_key p (set_rows k.sort_key xs []))

    -- what stands at a sort key with one row more, by whether the sort key is kept then
    more_at : (p : SortKey) (b : Bool) → is_kept_in (ps ++ q ∷ []) p ≡ b → row_at k.sort_key p (first_rows k (xs ++ x ∷ [])) ≡ cond b (cond (same_sort_key q p) (Some next) (row_of p)) None
    more_at p b is =
        first_at (xs ++ x ∷ []) p
        ∙ (λ i. cond (is_kept_in (sort_keys_more k.sort_key xs x i) p) (option_map (k.counted (count_of p (sort_keys_more k.sort_key xs x i))) (at_more k.sort_key k.counted stays xs x p i)) None)
        ∙ (λ i. cond (is i) (number_more k.sort_key k.counted stays ps x p (row_at k.sort_key p (set_rows k.sort_key xs [])) i) None)

    set_at : (p : SortKey) → row_at k.sort_key p (set_row k.sort_key next (first_rows k xs)) ≡ cond (same_sort_key q p) (Some next) (cond (is_kept_in ps p) (row_of p) None)
    set_at p = at_counted k.sort_key k.counted stays (count_of q ps + 1) x (first_rows k xs) p ∙ ap (cond (same_sort_key q p) (Some next)) (first_at xs p)

    -- the sort key is its own, or it isn't
    kept_there : (p : SortKey) (b : Bool) → is_kept_in ps q ≡ b → same_sort_key q p ≡ true → is_kept_in ps p ≡ b
    kept_there p b is e = ap (is_kept_in ps) (sym (same_sort_key_exact q p e)) ∙ is

    set_same : ((d : D) → row_at k.sort_key (k.sort_key d) (first_rows k (xs ++ x ∷ [])) ≡ row_at k.sort_key (k.sort_key d) (set_row k.sort_key next (first_rows k xs))) → first_rows k (xs ++ x ∷ []) ≡ set_row k.sort_key next (first_rows k xs)
    set_same same = same_rows_by k.sort_key (first_rows k (xs ++ x ∷ [])) (set_row k.sort_key next (first_rows k xs)) (first_ascend (xs ++ x ∷ [])) (ascend-set_row k.sort_key next (first_rows k xs) (first_ascend xs)) same

    again_by : (kept b : Bool) (o : Option D) → (b ≡ true → kept ≡ true) → cond kept (cond b (Some next) o) None ≡ cond b (Some next) (cond kept o None)
    again_by kept true o is = ap (λ c. cond c (Some next) None) (is refl)
    again_by kept false o is = refl

    pub first_again : is_kept_in ps q ≡ true → first_rows k (xs ++ x ∷ []) ≡ set_row k.sort_key next (first_rows k xs)
    first_again kept = set_same (λ d.
        let p = k.sort_key d in
        more_at p (is_kept_in ps p) (again_at k.len k.most ps q long kept p (are.long d))
        ∙ again_by (is_kept_in ps p) (same_sort_key q p) (row_of p) (kept_there p true kept)
        ∙ sym (set_at p))

    new_by : (kept b : Bool) (o : Option D) → cond (kept || b) (cond b (Some next) o) None ≡ cond b (Some next) (cond kept o None)
    new_by true true o = refl
    new_by true false o = refl
    new_by false true o = refl
    new_by false false o = refl

    pub first_new : is_kept_in ps q ≡ false → length (kept_of k.most own ps) < k.most → first_rows k (xs ++ x ∷ []) ≡ set_row k.sort_key next (first_rows k xs)
    first_new apart few = set_same (λ d.
        let p = k.sort_key d in
        more_at p (is_kept_in ps p || same_sort_key q p) (new_at k.len k.most ps q long apart few p (are.long d))
        ∙ new_by (is_kept_in ps p) (same_sort_key q p) (row_of p)
        ∙ sym (set_at p))

    late_by : (kept b : Bool) (o : Option D) → (b ≡ true → kept ≡ false) → cond kept (cond b (Some next) o) None ≡ cond kept o None
    late_by kept true o is = ap (λ c. cond c (Some next) None) (is refl) ∙ sym (ap (λ c. cond c o None) (is refl))
    late_by kept false o is = refl

    pub first_late : is_kept_in ps q ≡ false → k.most ≤ length (kept_of k.most own ps) → first_rows k (xs ++ x ∷ []) ≡ first_rows k xs
    first_late apart full = same_rows_by k.sort_key (first_rows k (xs ++ x ∷ [])) (first_rows k xs) (first_ascend (xs ++ x ∷ [])) (first_ascend xs) (λ d.
        let p = k.sort_key d in
        more_at p (is_kept_in ps p) (late_at k.len k.most ps q long full p (are.long d))
        ∙ late_by (is_kept_in ps p) (same_sort_key q p) (row_of p) (kept_there p false apart)
        ∙ sym (first_at xs p))

    -- ---- The others

    abbrev left : List SortKey → D → Bool
    left ps' d = not (is_first k ps' d)

    others_more : others_of k (sort_keys (xs ++ x ∷ [])) (xs ++ x ∷ []) ≡ map k.other (filter (left (ps ++ q ∷ [])) xs ++ cond (not (is_kept_in (ps ++ q ∷ []) q)) (x ∷ []) [])
    unfolding is_first
    others_more =
        (λ i. map k.other (filter (left (sort_keys_more k.sort_key xs x i)) (xs ++ x ∷ [])))
        ∙ ap (map k.other) (filter-append (left (ps ++ q ∷ [])) xs (x ∷ []))

    kept_now : (b : Bool) → is_kept_in (ps ++ q ∷ []) q ≡ b → (test : D → Bool) → filter (left (ps ++ q ∷ [])) xs ≡ filter test xs → others_of k (sort_keys (xs ++ x ∷ [])) (xs ++ x ∷ []) ≡ map k.other (filter test xs ++ cond (not b) (x ∷ []) [])
    kept_now b is test same = others_more ∙ (λ i. map k.other (same i ++ cond (not (is i)) (x ∷ []) []))

    late_kept : others_of k (sort_keys (xs ++ x ∷ [])) (xs ++ x ∷ []) ≡ others_of k ps xs → late_rows k (xs ++ x ∷ []) ≡ late_rows k xs
    unfolding late_rows
    late_kept same = ap (count_rows k.beginning k.counted_late) same

    pub late_again : is_kept_in ps q ≡ true → late_rows k (xs ++ x ∷ []) ≡ late_rows k xs
    unfolding is_first
    late_again kept = late_kept
        (kept_now true (again_at k.len k.most ps q long kept q long ∙ kept) (left ps) (same_tests (left (ps ++ q ∷ [])) (left ps) xs (λ d. ap not (again_at k.len k.most ps q long kept (k.sort_key d) (are.long d))))
        ∙ ap (map k.other) (append-nil (filter (left ps) xs)))

    pub late_new : is_kept_in ps q ≡ false → length (kept_of k.most own ps) < k.most → late_rows k (xs ++ x ∷ []) ≡ late_rows k xs
    unfolding is_first
    late_new apart few = late_kept
        (kept_now true (new_at k.len k.most ps q long apart few q long ∙ ap (λ b. is_kept_in ps q || b) (same_sort_key_itself q) ∙ or-true (is_kept_in ps q)) (left ps)
        (same_but k.sort_key q (left (ps ++ q ∷ [])) (left ps) (λ d e. ap not (new_at k.len k.most ps q long apart few (k.sort_key d) (are.long d) ∙ ap (λ b. is_kept_in ps (k.sort_key d) || b) e ∙ or-false (is_kept_in ps (k.sort_key d)))) xs (not_appeared k.len k.most ps q long apart few))
        ∙ ap (map k.other) (append-nil (filter (left ps) xs)))

    pub others_late : is_kept_in ps q ≡ false → k.most ≤ length (kept_of k.most own ps) → others_of k (sort_keys (xs ++ x ∷ [])) (xs ++ x ∷ []) ≡ others_of k ps xs ++ k.other x ∷ []
    unfolding is_first
    others_late apart full =
        kept_now false (late_at k.len k.most ps q long full q long ∙ apart) (left ps) (same_tests (left (ps ++ q ∷ [])) (left ps) xs (λ d. ap not (late_at k.len k.most ps q long full (k.sort_key d) (are.long d))))
        ∙ map-append k.other (filter (left ps) xs) (x ∷ [])
