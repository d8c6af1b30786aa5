-- What the rows of the sort keys that appear first say, and what a call makes of them.
use Rattle.std.proofs.Common.{◌≡◌, ℕ, zero, suc, ◌+◌, ◌≤◌, ◌<◌, ◌⊎◌, inl, inr, Bool, true, false, cond, not, List, [], ◌∷◌, ◌++◌, length, take, map, Option, Some, None, refl, sym, ap, subst, ◌∙◌, arith}
use Rattle.std.specs.Prelude.{is_some}
use Rattle.std.specs.List.{filter}
use Rattle.std.specs.Option.{option_map}
use Rattle.std.proofs.lemmas.Bool.{false≢true}
use Rattle.std.proofs.lemmas.Option.{same_Some, none-some}
use Rattle.std.proofs.lemmas.List.{append-nil}
use Rattle.base_rows.specs.Sortable.{same_sort_key, SortKeysAscend, row_at, set_row, is_under, rows_under}
use Rattle.base_rows.proofs.SortableLaws.{same_sort_key_exact}
use Rattle.base_rows.proofs.Lists.{filter_few, length-cond}
use Rattle.drop_ledger.specs.Counted.{SortKey, Kinds, AreKinds, AreFirstRows, count_of, count_rows, is_of, those_of, is_first, first_rows, late_rows, total, sum_of, found_count, count_at}
use Rattle.drop_ledger.proofs.CountLaws.{positive, positive_some, count_none}
use Rattle.drop_ledger.proofs.KeptLaws.{own_length, of_own, is_own, appeared, not_appeared}
use Rattle.drop_ledger.proofs.FirstLaws.{AreFirstCounts, again, new, late}
use Rattle.drop_ledger.proofs.LeftLaws.{left_of, AddUp, again_adds, new_adds, late_adds}
use Rattle.drop_ledger.proofs.NumberLaws.{sort_keys_more, count_there, count_missing, SaysMore}
use Rattle.drop_ledger.proofs.RowSteps.{below_or_not, first_ascend, first_again, first_new, first_late, late_again, late_new, others_late, either}
use Rattle.drop_ledger.proofs.Parts.{firsts, kept_of, is_kept, others_of}

-- ---- Numbers

positive_is : (n k : ℕ) → positive n ≡ Some k → n ≡ k
unfolding positive
positive_is zero k e = absurd (none-some k e)
positive_is (suc n) k e = same_Some (suc n) k e

abbrev none_sort_keyd : List SortKey
none_sort_keyd = []

take_none : (n : ℕ) → take n none_sort_keyd ≡ []
take_none zero = refl
take_none (suc n) = refl

taken_few : (n : ℕ) (l : List SortKey) → length (take n l) ≤ n
taken_few zero l = omega arith
taken_few (suc n) [] = omega arith
taken_few (suc n) (p ∷ l) = let rest = taken_few n l in omega (arith, rest)

fewer_by : (p : SortKey) (l l' : List SortKey) → length l ≤ length l' → (b c : Bool) → (b ≡ true → c ≡ true) → length (cond b (p ∷ l) l) ≤ length (cond c (p ∷ l') l')
fewer_by p l l' few true true both = omega arith
fewer_by p l l' few true false both = absurd (false≢true (both refl))
fewer_by p l l' few false true both = omega arith
fewer_by p l l' few false false both = few

-- a sort key appears no more often than sort keys begin as it does
count_those : (t q : SortKey) (ps : List SortKey) → is_of t q ≡ true → count_of q ps ≤ length (those_of t ps)
unfolding count_of those_of
count_those t q [] of = omega arith
count_those t q (p ∷ ps) of = fewer_by p (filter (same_sort_key q) ps) (filter (is_of t) ps) (count_those t q ps of) (same_sort_key q p) (is_of t p) (λ e. subst (λ r. is_of t r ≡ true) (same_sort_key_exact q p e) of)

-- ---- The rows of one beginning

under_total : {R : Type 0} (sort_key : R → SortKey) (t : SortKey) (rows : List R) → length (rows_under sort_key t rows) ≡ total (λ r. cond (is_of t (sort_key r)) 1 0) rows
unfolding total is_of
under_total sort_key t [] = refl
under_total sort_key t (x ∷ xs) =
    length-cond (is_under sort_key t x) x (rows_under sort_key t xs)
    ∙ ap (λ n. cond (is_under sort_key t x) 1 0 + n) (under_total sort_key t xs)

pub late_rows_are : {D O : Type 0} (k : Kinds D O) (xs : List D) → late_rows k xs ≡ count_rows k.beginning k.counted_late (others_of k (map k.sort_key xs) xs)
unfolding late_rows
late_rows_are k xs = refl

-- ---- Those that are left out, as sort keys and as rows of their beginnings

alike : (one none : ℕ) (c i held here : Bool) → here ≡ i → (i ≡ true → c ≡ held) → cond (not c) (cond here one none) none ≡ cond i (cond (not held) one none) none
alike one none c true held here is same = (λ j. cond (not (same refl j)) (cond (is j) one none) none)
alike one none true false held here is same = refl
alike one none false false held here is same = ap (λ b. cond b one none) is

module _ {D O : Type 0} (k : Kinds D O) (are : AreKinds k) (ps : List SortKey) (t : SortKey) (at : length t ≡ k.len) where
  begun : List D → ℕ
  begun ds = length (filter (same_sort_key t) (map k.beginning (map k.other ds)))

  out : List SortKey → ℕ
  out l = length (filter (λ p. not (is_kept k.most t ps p)) l)

  begun_by : (x : D) (ds : List D) (c : Bool) → begun (cond (not c) (x ∷ ds) ds) ≡ cond (not c) (cond (same_sort_key t (k.beginning (k.other x))) 1 0) 0 + begun ds
  unfolding begun
  begun_by x ds true = omega arith
  begun_by x ds false = length-cond (same_sort_key t (k.beginning (k.other x))) (k.beginning (k.other x)) (filter (same_sort_key t) (map k.beginning (map k.other ds)))

  out_by : (p : SortKey) (l : List SortKey) (i : Bool) → out (cond i (p ∷ l) l) ≡ cond i (cond (not (is_kept k.most t ps p)) 1 0) 0 + out l
  unfolding out
  out_by p l true = length-cond (not (is_kept k.most t ps p)) p (filter (λ q. not (is_kept k.most t ps q)) l)
  out_by p l false = omega arith

  begins : (x : D) → same_sort_key t (k.beginning (k.other x)) ≡ is_of t (k.sort_key x)
  unfolding is_of
  begins x = ap (same_sort_key t) (are.own x) ∙ ap (λ n. same_sort_key t (take n (k.sort_key x))) (sym at)

  held : (x : D) → is_of t (k.sort_key x) ≡ true → is_first k ps x ≡ is_kept k.most t ps (k.sort_key x)
  unfolding is_first
  held x of = ap (λ u. is_kept k.most u ps (k.sort_key x)) (sym (is_own k.len (k.sort_key x) (are.long x) t at of))

  left_sums : (xs : List D) → begun (filter (λ d. not (is_first k ps d)) xs) ≡ out (filter (is_of t) (map k.sort_key xs))
  unfolding begun out
  left_sums [] = refl
  left_sums (x ∷ xs) =
      begun_by x (filter (λ d. not (is_first k ps d)) xs) (is_first k ps x)
      ∙ (λ i. alike 1 0 (is_first k ps x) (is_of t (k.sort_key x)) (is_kept k.most t ps (k.sort_key x)) (same_sort_key t (k.beginning (k.other x))) (begins x) (held x) i + left_sums xs i)
      ∙ sym (out_by (k.sort_key x) (filter (is_of t) (map k.sort_key xs)) (is_of t (k.sort_key x)))

  pub left_count : (xs : List D) → count_of t (map k.beginning (others_of k ps xs)) ≡ length (filter (λ p. not (is_kept k.most t ps p)) (those_of t (map k.sort_key xs)))
  unfolding count_of those_of begun out
  left_count xs = left_sums xs

module _ {D O : Type 0} (k : Kinds D O) (are : AreKinds k) (stays : (n : ℕ) (d : D) → k.sort_key (k.counted n d) ≡ k.sort_key d) (count : D → ℕ) (told : (n : ℕ) (d : D) → count (k.counted n d) ≡ n) where
  abbrev sort_keys : List D → List SortKey
  sort_keys xs = map k.sort_key xs

  abbrev own : D → SortKey
  own d = take k.len (k.sort_key d)

  abbrev is_kept_in : List SortKey → D → Bool
  is_kept_in ps d = is_kept k.most (own d) ps (k.sort_key d)

  -- ---- What the rows say

  pub record Says (ps : List SortKey) (rows : List D) : Type 0 where
    pub first : AreFirstCounts k.sort_key count k.len k.most ps rows
    pub add : AddUp k.sort_key count k.len k.most ps rows

  none_kept : (t : SortKey) → kept_of k.most t [] ≡ []
  unfolding those_of
  none_kept t = take_none k.most

  says_none : Says [] (first_rows k [])
  unfolding first_rows count_of positive total sum_of left_of those_of
  says_none = record {
    first = record {
      at = λ p long. either (is_kept k.most (take k.len p) [] p) None;
      under = λ t at. sym (ap length (none_kept t));
    };
    add = record { at = λ t at. refl };
  }

  module _ (ps : List SortKey) (rows : List D) (says : Says ps rows) (up : SortKeysAscend k.sort_key rows) (y : D) (q : SortKey) (at : k.sort_key y ≡ q) where
    kept_y : (b : Bool) → is_kept k.most (take k.len q) ps q ≡ b → is_kept k.most (take k.len (k.sort_key y)) ps (k.sort_key y) ≡ b
    kept_y b is = ap (λ p. is_kept k.most (take k.len p) ps p) at ∙ is

    says_again : is_kept k.most (take k.len q) ps q ≡ true → count y ≡ count_of q ps + 1 → Says (ps ++ q ∷ []) (set_row k.sort_key y rows)
    says_again kept more =
        let more_y : count y ≡ count_of (k.sort_key y) ps + 1 = more ∙ ap (λ p. count_of p ps + 1) (sym at) in
        subst (λ p. Says (ps ++ p ∷ []) (set_row k.sort_key y rows)) at (record {
          first = again k.sort_key count k.len k.most ps y rows up says.first (are.long y) (kept_y true kept) more_y;
          add = again_adds k.sort_key count k.len k.most ps y rows up says.first says.add (are.long y) (kept_y true kept) more_y;
        })

    says_new : is_kept k.most (take k.len q) ps q ≡ false → length (kept_of k.most (take k.len q) ps) < k.most → count y ≡ 1 → Says (ps ++ q ∷ []) (set_row k.sort_key y rows)
    says_new apart few one =
        let few_y : length (kept_of k.most (take k.len (k.sort_key y)) ps) < k.most = subst (λ p. length (kept_of k.most (take k.len p) ps) < k.most) (sym at) few in
        subst (λ p. Says (ps ++ p ∷ []) (set_row k.sort_key y rows)) at (record {
          first = new k.sort_key count k.len k.most ps y rows up says.first (are.long y) (kept_y false apart) few_y one;
          add = new_adds k.sort_key count k.len k.most ps y rows up says.first says.add (are.long y) (kept_y false apart) few_y one;
        })

  one_of : (q : SortKey) (ps : List SortKey) → count_of q ps ≡ 0 → count_of q ps + 1 ≡ 1
  one_of q ps none = ap (λ n. n + 1) none

  says_more : (xs : List D) (x : D) → Says (sort_keys xs) (first_rows k xs) → Says (sort_keys (xs ++ x ∷ [])) (first_rows k (xs ++ x ∷ []))
  says_more xs x says = subst (λ ps. Says ps (first_rows k (xs ++ x ∷ []))) (sym (sort_keys_more k.sort_key xs x)) (by (is_kept_in (sort_keys xs) x) refl)
    where
      y : D
      y = k.counted (count_of (k.sort_key x) (sort_keys xs) + 1) x

      at : k.sort_key y ≡ k.sort_key x
      at = stays (count_of (k.sort_key x) (sort_keys xs) + 1) x

      number : count y ≡ count_of (k.sort_key x) (sort_keys xs) + 1
      number = told (count_of (k.sort_key x) (sort_keys xs) + 1) x

      long : k.len ≤ length (k.sort_key x)
      long = are.long x

      few_or_full : is_kept_in (sort_keys xs) x ≡ false → ((length (kept_of k.most (own x) (sort_keys xs)) < k.most) ⊎ (k.most ≤ length (kept_of k.most (own x) (sort_keys xs)))) → Says (sort_keys xs ++ k.sort_key x ∷ []) (first_rows k (xs ++ x ∷ []))
      few_or_full apart (inl few) =
          subst (Says (sort_keys xs ++ k.sort_key x ∷ [])) (sym (first_new k are stays xs x apart few))
          (says_new (sort_keys xs) (first_rows k xs) says (first_ascend k are stays xs) y (k.sort_key x) at apart few
          (number ∙ one_of (k.sort_key x) (sort_keys xs) (count_none (k.sort_key x) (sort_keys xs) (not_appeared k.len k.most (sort_keys xs) (k.sort_key x) long apart few))))
      few_or_full apart (inr full) =
          subst (Says (sort_keys xs ++ k.sort_key x ∷ [])) (sym (first_late k are stays xs x apart full)) (record {
            first = late k.sort_key count k.len k.most (sort_keys xs) (k.sort_key x) (first_rows k xs) says.first long apart full;
            add = late_adds k.sort_key count k.len k.most (sort_keys xs) (k.sort_key x) (first_rows k xs) says.add long apart full;
          })

      by : (b : Bool) → is_kept_in (sort_keys xs) x ≡ b → Says (sort_keys xs ++ k.sort_key x ∷ []) (first_rows k (xs ++ x ∷ []))
      by true kept =
          subst (Says (sort_keys xs ++ k.sort_key x ∷ [])) (sym (first_again k are stays xs x kept))
          (says_again (sort_keys xs) (first_rows k xs) says (first_ascend k are stays xs) y (k.sort_key x) at kept number)
      by false apart = few_or_full apart (below_or_not (length (kept_of k.most (own x) (sort_keys xs))) k.most)

  says_from : (done rest : List D) → Says (sort_keys done) (first_rows k done) → Says (sort_keys (done ++ rest)) (first_rows k (done ++ rest))
  says_from done [] says = subst (λ l. Says (sort_keys l) (first_rows k l)) (sym (append-nil done)) says
  says_from done (x ∷ rest) says = subst (λ l. Says (sort_keys l) (first_rows k l)) (moved done) (says_from (done ++ x ∷ []) rest (says_more done x says))
    where
      moved : (l : List D) → (l ++ x ∷ []) ++ rest ≡ l ++ x ∷ rest
      moved [] = refl
      moved (y ∷ l) = ap (λ m. y ∷ m) (moved l)

  pub says_all : (xs : List D) → Says (sort_keys xs) (first_rows k xs)
  says_all xs = says_from [] xs says_none

  -- ---- What a call finds

  kept_by : (xs : List D) (x old : D) → row_at k.sort_key (k.sort_key x) (first_rows k xs) ≡ Some old → (b : Bool) → is_kept_in (sort_keys xs) x ≡ b → (b ≡ true) × (count old ≡ count_of (k.sort_key x) (sort_keys xs))
  kept_by xs x old e true is = (
    refl,
    sym (positive_is (count_of (k.sort_key x) (sort_keys xs)) (count old)
        (ap (λ b. cond b (positive (count_of (k.sort_key x) (sort_keys xs))) None) (sym is) ∙ sym ((says_all xs).first.at (k.sort_key x) (are.long x)) ∙ ap (option_map count) e)),
  )
  kept_by xs x old e false is = absurd (none-some (count old)
      (ap (λ b. cond b (positive (count_of (k.sort_key x) (sort_keys xs))) None) (sym is) ∙ sym ((says_all xs).first.at (k.sort_key x) (are.long x)) ∙ ap (option_map count) e))

  apart_by : (xs : List D) (x : D) → row_at k.sort_key (k.sort_key x) (first_rows k xs) ≡ None → (b : Bool) → is_kept_in (sort_keys xs) x ≡ b → is_kept_in (sort_keys xs) x ≡ false
  apart_by xs x e true is =
      let some : (n : ℕ) × (positive (count_of (k.sort_key x) (sort_keys xs)) ≡ Some n) = positive_some (k.sort_key x) (sort_keys xs) (appeared k.len k.most (sort_keys xs) (k.sort_key x) (are.long x) is) in
      absurd (none-some some.0 (sym (ap (option_map count) e) ∙ (says_all xs).first.at (k.sort_key x) (are.long x) ∙ ap (λ b. cond b (positive (count_of (k.sort_key x) (sort_keys xs))) None) is ∙ some.1))
  apart_by xs x e false is = is

  some_row : (o : Option D) → is_some o ≡ true → (d : D) × (o ≡ Some d)
  some_row None e = absurd (false≢true e)
  some_row (Some d) e = (d, refl)

  no_row : (o : Option D) → is_some o ≡ false → o ≡ None
  no_row None e = refl
  no_row (Some d) e = absurd (false≢true (sym e))

  -- ---- What a call makes

  module _ (xs rows : List D) (others : List O) (rows_are : AreFirstRows k xs rows others) (x : D) (few : length (those_of (own x) (sort_keys xs)) + 1 < 18446744073709551616) where
    abbrev q : SortKey
    q = k.sort_key x

    abbrev pub After : List D → List O → Type 0
    After rows' others' = AreFirstRows k (xs ++ x ∷ []) rows' others'

    pub again_counted : (y : D) (n : ℕ) (rows' : List D) → is_some (row_at k.sort_key q rows) ≡ true → SaysMore k.sort_key k.counted stays count told q rows n → y ≡ k.counted n x → rows' ≡ set_row k.sort_key y rows → After rows' others
    again_counted y n rows' there more numbered' put =
        let old = some_row (row_at k.sort_key q rows) there in
        let old_is : row_at k.sort_key q (first_rows k xs) ≡ Some old.0 = ap (row_at k.sort_key q) (sym rows_are.rows) ∙ old.1 in
        let kept = kept_by xs x old.0 old_is (is_kept_in (sort_keys xs) x) refl in
        let most : count_of q (sort_keys xs) ≤ length (those_of (own x) (sort_keys xs)) = count_those (own x) q (sort_keys xs) (of_own k.len q (are.long x)) in
        let number : n ≡ count_of q (sort_keys xs) + 1 = more old.0 old.1 (omega (arith, kept.1)) ∙ ap (λ m. m + 1) kept.1 in
        record {
          rows = put ∙ (λ i. set_row k.sort_key (numbered' i) (rows_are.rows i)) ∙ ap (λ m. set_row k.sort_key (k.counted m x) (first_rows k xs)) number ∙ sym (first_again k are stays xs x kept.0);
          others = rows_are.others ∙ sym (late_again k are stays xs x kept.0);
        }

    few_kept : (n : ℕ) → length (rows_under k.sort_key (own x) rows) ≡ n → length (kept_of k.most (own x) (sort_keys xs)) ≡ n
    few_kept n is = sym ((says_all xs).first.under (own x) (own_length k.len q (are.long x))) ∙ sym (under_total k.sort_key (own x) (first_rows k xs)) ∙ ap (λ rs. length (rows_under k.sort_key (own x) rs)) (sym rows_are.rows) ∙ is

    missing : is_some (row_at k.sort_key q rows) ≡ false → is_kept_in (sort_keys xs) x ≡ false
    missing none = apart_by xs x (ap (row_at k.sort_key q) (sym rows_are.rows) ∙ no_row (row_at k.sort_key q rows) none) (is_kept_in (sort_keys xs) x) refl

    pub new_counted : (y : D) (t : SortKey) (rows' : List D) → is_some (row_at k.sort_key q rows) ≡ false → t ≡ own x → length (rows_under k.sort_key t rows) < k.most → y ≡ k.counted 1 x → rows' ≡ set_row k.sort_key y rows → After rows' others
    new_counted y t rows' none begins fewer numbered' put =
        let apart : is_kept_in (sort_keys xs) x ≡ false = missing none in
        let fewer' : length (kept_of k.most (own x) (sort_keys xs)) < k.most = subst (λ n. n < k.most) (sym (few_kept (length (rows_under k.sort_key t rows)) (ap (λ u. length (rows_under k.sort_key u rows)) (sym begins)))) fewer in
        let number : count_of q (sort_keys xs) + 1 ≡ 1 = one_of q (sort_keys xs) (count_none q (sort_keys xs) (not_appeared k.len k.most (sort_keys xs) q (are.long x) apart fewer')) in
        record {
          rows = put ∙ (λ i. set_row k.sort_key (numbered' i) (rows_are.rows i)) ∙ ap (λ m. set_row k.sort_key (k.counted m x) (first_rows k xs)) (sym number) ∙ sym (first_new k are stays xs x apart fewer');
          others = rows_are.others ∙ sym (late_new k are stays xs x apart fewer');
        }

    pub late_counted : (t : SortKey) (others' : List O) → is_some (row_at k.sort_key q rows) ≡ false → t ≡ own x → k.most ≤ length (rows_under k.sort_key t rows) → others' ≡ count_rows k.beginning k.counted_late (others_of k (sort_keys xs) xs ++ k.other x ∷ []) → After rows others'
    late_counted t others' none begins full counted' =
        let apart : is_kept_in (sort_keys xs) x ≡ false = missing none in
        let full' : k.most ≤ length (kept_of k.most (own x) (sort_keys xs)) = subst (λ n. k.most ≤ n) (sym (few_kept (length (rows_under k.sort_key t rows)) (ap (λ u. length (rows_under k.sort_key u rows)) (sym begins)))) full in
        record {
          rows = rows_are.rows ∙ sym (first_late k are stays xs x apart full');
          others = counted' ∙ ap (count_rows k.beginning k.counted_late) (sym (others_late k are stays xs x apart full')) ∙ sym (late_rows_are k (xs ++ x ∷ []));
        }

  -- the others of a beginning are no more than all that begin so
  pub others_few : (xs : List D) (x : D) → length (those_of (own x) (sort_keys xs)) + 1 < 18446744073709551616 → count_of (k.beginning (k.other x)) (map k.beginning (others_of k (sort_keys xs) xs)) + 1 < 18446744073709551616
  others_few xs x few =
      let is : count_of (own x) (map k.beginning (others_of k (sort_keys xs) xs)) ≡ length (filter (λ p. not (is_kept k.most (own x) (sort_keys xs) p)) (those_of (own x) (sort_keys xs))) = left_count k are (sort_keys xs) (own x) (own_length k.len (k.sort_key x) (are.long x)) xs in
      let less : length (filter (λ p. not (is_kept k.most (own x) (sort_keys xs) p)) (those_of (own x) (sort_keys xs))) ≤ length (those_of (own x) (sort_keys xs)) = filter_few (λ p. not (is_kept k.most (own x) (sort_keys xs) p)) (those_of (own x) (sort_keys xs)) in
      subst (λ t. count_of t (map k.beginning (others_of k (sort_keys xs) xs)) + 1 < 18446744073709551616) (sym (are.own x)) (omega arith)

  -- ---- What adds up

  module _ (stays_late : (n : ℕ) (o : O) → k.beginning (k.counted_late n o) ≡ k.beginning o) (left : O → ℕ) (told_late : (n : ℕ) (o : O) → left (k.counted_late n o) ≡ n) where
    found_late : (xs : List D) (t : SortKey) (o : Option O) → row_at k.beginning t (late_rows k xs) ≡ o → found_count left o ≡ count_of t (map k.beginning (others_of k (sort_keys xs) xs))
    unfolding found_count late_rows
    found_late xs t None e = sym (count_missing k.beginning k.counted_late stays_late left told_late (others_of k (sort_keys xs) xs) t e)
    found_late xs t (Some o) e = count_there k.beginning k.counted_late stays_late left told_late (others_of k (sort_keys xs) xs) t o e

    left_is : (t : SortKey) (xs : List D) {n : ℕ} → n ≡ length (filter (λ p. not (is_kept k.most t (sort_keys xs) p)) (those_of t (sort_keys xs))) → n ≡ length (left_of k.most t (sort_keys xs))
    unfolding left_of
    left_is t xs e = e

    pub late_count : (xs : List D) (t : SortKey) → length t ≡ k.len → count_at k.beginning left t (late_rows k xs) ≡ length (left_of k.most t (sort_keys xs))
    unfolding count_at
    late_count xs t at = found_late xs t (row_at k.beginning t (late_rows k xs)) refl ∙ left_is t xs (left_count k are (sort_keys xs) t at xs)

    pub first_add_up : (xs : List D) (t : SortKey) → length t ≡ k.len → sum_of k.sort_key count t (first_rows k xs) + count_at k.beginning left t (late_rows k xs) ≡ length (those_of t (sort_keys xs))
    first_add_up xs t at = ap (λ n. sum_of k.sort_key count t (first_rows k xs) + n) (late_count xs t at) ∙ (says_all xs).add.at t at

  pub first_few : (xs : List D) (t : SortKey) → length t ≡ k.len → length (rows_under k.sort_key t (first_rows k xs)) ≤ k.most
  first_few xs t at =
      let is : length (rows_under k.sort_key t (first_rows k xs)) ≡ length (kept_of k.most t (sort_keys xs)) = under_total k.sort_key t (first_rows k xs) ∙ (says_all xs).first.under t at in
      subst (λ n. n ≤ k.most) (sym is) (taken_few k.most (firsts (those_of t (sort_keys xs))))
