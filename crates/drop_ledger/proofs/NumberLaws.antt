-- The rows of all sort keys, with one row more.
use Rattle.std.proofs.Common.{◌≡◌, ℕ, ◌+◌, ◌<◌, Bool, true, false, cond, List, [], ◌∷◌, ◌++◌, length, map, Option, Some, None, refl, sym, ap, subst, ◌∙◌, arith, length-append, add-zero}
use Rattle.std.specs.List.{filter}
use Rattle.std.specs.Option.{option_map}
use Rattle.std.proofs.lemmas.Option.{same_Some, none-some}
use Rattle.std.proofs.lemmas.List.{map-append, append-nil}
use Rattle.base_rows.specs.Sortable.{sort_key_cmp, same_sort_key, SortKeysAscend, row_at, set_row, set_rows}
use Rattle.base_rows.proofs.SortableLaws.{same_sort_key_exact, row_at-set_row, set_rows-push, ascend-set_row, ascend-set_rows}
use Rattle.base_rows.proofs.RowLaws.{sort_key_row_at, ascend-map}
use Rattle.base_rows.proofs.RowSets.{row_at-map, same_rows_by}
use Rattle.drop_ledger.specs.Counted.{SortKey, count_of, numbered, count_rows, total}
use Rattle.drop_ledger.proofs.CountLaws.{sort_key_turned, count_more, weight, total_set}

-- where no row stands at a sort key after others are put in, none did before, and none of those has it
none_put : {R : Type 0} (sort_key : R → SortKey) (p : SortKey) (x : R) (old : Option R) → (b : Bool) → same_sort_key (sort_key x) p ≡ b → cond b (Some x) old ≡ None → (same_sort_key p (sort_key x) ≡ false) × (old ≡ None)
none_put sort_key p x old true e is = absurd (none-some x (sym is))
none_put sort_key p x old false e is = (sort_key_turned p (sort_key x) ∙ e, is)

pub none_counted : {R : Type 0} (sort_key : R → SortKey) (p : SortKey) (xs rows : List R) → row_at sort_key p (set_rows sort_key xs rows) ≡ None → (count_of p (map sort_key xs) ≡ 0) × (row_at sort_key p rows ≡ None)
unfolding count_of
none_counted sort_key p [] rows none = (refl, none)
none_counted sort_key p (x ∷ xs) rows none =
    let rest = none_counted sort_key p xs (set_row sort_key x rows) none in
    let first = none_put sort_key p x (row_at sort_key p rows) (same_sort_key (sort_key x) p) refl (sym (row_at-set_row sort_key x rows p) ∙ rest.1) in
    (ap (λ b. length (cond b (sort_key x ∷ filter (same_sort_key p) (map sort_key xs)) (filter (same_sort_key p) (map sort_key xs)))) first.0 ∙ rest.0, first.1)

pub sort_keys_more : {R : Type 0} (sort_key : R → SortKey) (xs : List R) (x : R) → map sort_key (xs ++ x ∷ []) ≡ map sort_key xs ++ sort_key x ∷ []
sort_keys_more sort_key xs x = map-append sort_key xs (x ∷ [])

module _ {R : Type 0} (sort_key : R → SortKey) (counted : ℕ → R → R) (kept : (n : ℕ) (r : R) → sort_key (counted n r) ≡ sort_key r) where
  -- ---- Numbers leave the sort keys

  pub at_numbered : (ps : List SortKey) (p : SortKey) (rows : List R) → row_at sort_key p (map (numbered sort_key counted ps) rows) ≡ option_map (numbered sort_key counted ps) (row_at sort_key p rows)
  unfolding numbered
  at_numbered ps p rows = row_at-map sort_key sort_key (numbered sort_key counted ps) p p (λ x. ap (λ q. same_sort_key q p) (kept (count_of (sort_key x) ps) x)) rows

  pub up_numbered : (ps : List SortKey) (rows : List R) → SortKeysAscend sort_key rows → SortKeysAscend sort_key (map (numbered sort_key counted ps) rows)
  unfolding numbered
  up_numbered ps rows up = ascend-map sort_key sort_key (numbered sort_key counted ps) (λ x y. (λ i. sort_key_cmp (kept (count_of (sort_key x) ps) x i) (kept (count_of (sort_key y) ps) y i))) rows up

  -- the number of a row that stands at a sort key
  pub number_at : (ps : List SortKey) (p : SortKey) (o : Option R) → ((r : R) → o ≡ Some r → sort_key r ≡ p) → option_map (numbered sort_key counted ps) o ≡ option_map (counted (count_of p ps)) o
  unfolding numbered
  number_at ps p None keyed = refl
  number_at ps p (Some r) keyed = ap (λ q. Some (counted (count_of q ps) r)) (keyed r refl)

  -- ---- All sort keys

  pub count_at_sort_key : (xs : List R) (p : SortKey) → row_at sort_key p (count_rows sort_key counted xs) ≡ option_map (counted (count_of p (map sort_key xs))) (row_at sort_key p (set_rows sort_key xs []))
  unfolding count_rows
  count_at_sort_key xs p =
      at_numbered (map sort_key xs) p (set_rows sort_key xs [])
      ∙ number_at (map sort_key xs) p (row_at sort_key p (set_rows sort_key xs [])) (λ r e. sort_key_row_at sort_key p (set_rows sort_key xs []) r e)

  pub count_ascend : (xs : List R) → SortKeysAscend sort_key (count_rows sort_key counted xs)
  unfolding count_rows
  count_ascend xs = up_numbered (map sort_key xs) (set_rows sort_key xs []) (ascend-set_rows sort_key xs [] tt)

  -- one row more at its sort key, whatever stands there
  one_by : (ps : List SortKey) (x : R) (p : SortKey) (old : Option R) (b : Bool) → same_sort_key (sort_key x) p ≡ b
      → option_map (counted (count_of p ps + cond b 1 0)) (cond b (Some x) old) ≡ cond b (Some (counted (count_of (sort_key x) ps + 1) x)) (option_map (counted (count_of p ps)) old)
  one_by ps x p old true e = ap (λ q. Some (counted (count_of q ps + 1) x)) (sym (same_sort_key_exact (sort_key x) p e))
  one_by ps x p old false e = ap (λ n. option_map (counted n) old) (add-zero (count_of p ps))

  pub number_more : (ps : List SortKey) (x : R) (p : SortKey) (old : Option R)
      → option_map (counted (count_of p (ps ++ sort_key x ∷ []))) (cond (same_sort_key (sort_key x) p) (Some x) old) ≡ cond (same_sort_key (sort_key x) p) (Some (counted (count_of (sort_key x) ps + 1) x)) (option_map (counted (count_of p ps)) old)
  number_more ps x p old =
      ap (λ n. option_map (counted n) (cond (same_sort_key (sort_key x) p) (Some x) old)) (count_more p (sort_key x) ps ∙ ap (λ b. count_of p ps + cond b 1 0) (sort_key_turned p (sort_key x)))
      ∙ one_by ps x p old (same_sort_key (sort_key x) p) refl

  pub at_more : (xs : List R) (x : R) (p : SortKey) → row_at sort_key p (set_rows sort_key (xs ++ x ∷ []) []) ≡ cond (same_sort_key (sort_key x) p) (Some x) (row_at sort_key p (set_rows sort_key xs []))
  at_more xs x p = ap (row_at sort_key p) (set_rows-push sort_key xs x []) ∙ row_at-set_row sort_key x (set_rows sort_key xs []) p

  abbrev next : List R → R → R
  next xs x = counted (count_of (sort_key x) (map sort_key xs) + 1) x

  pub at_counted : (n : ℕ) (x : R) (rows : List R) (p : SortKey) → row_at sort_key p (set_row sort_key (counted n x) rows) ≡ cond (same_sort_key (sort_key x) p) (Some (counted n x)) (row_at sort_key p rows)
  at_counted n x rows p = row_at-set_row sort_key (counted n x) rows p ∙ ap (λ q. cond (same_sort_key q p) (Some (counted n x)) (row_at sort_key p rows)) (kept n x)

  -- one row more is one more in the row of its sort key
  pub count_rows_more : (xs : List R) (x : R) → count_rows sort_key counted (xs ++ x ∷ []) ≡ set_row sort_key (next xs x) (count_rows sort_key counted xs)
  count_rows_more xs x = same_rows_by sort_key (count_rows sort_key counted (xs ++ x ∷ [])) (set_row sort_key (next xs x) (count_rows sort_key counted xs))
      (count_ascend (xs ++ x ∷ [])) (ascend-set_row sort_key (next xs x) (count_rows sort_key counted xs) (count_ascend xs))
      (λ r.
      count_at_sort_key (xs ++ x ∷ []) (sort_key r)
      ∙ (λ i. option_map (counted (count_of (sort_key r) (sort_keys_more sort_key xs x i))) (at_more xs x (sort_key r) i))
      ∙ number_more (map sort_key xs) x (sort_key r) (row_at sort_key (sort_key r) (set_rows sort_key xs []))
      ∙ ap (cond (same_sort_key (sort_key x) (sort_key r)) (Some (next xs x))) (sym (count_at_sort_key xs (sort_key r)))
      ∙ sym (at_counted (count_of (sort_key x) (map sort_key xs) + 1) x (count_rows sort_key counted xs) (sort_key r)))

  -- ---- What a row says

  module _ (count : R → ℕ) (told : (n : ℕ) (r : R) → count (counted n r) ≡ n) where
    said : (n : ℕ) (o : Option R) (old : R) → option_map (counted n) o ≡ Some old → count old ≡ n
    said n None old e = absurd (none-some old e)
    said n (Some r) old e = ap count (sym (same_Some (counted n r) old e)) ∙ told n r

    -- a row has the number of times that its sort key appears
    pub count_there : (xs : List R) (p : SortKey) (old : R) → row_at sort_key p (count_rows sort_key counted xs) ≡ Some old → count old ≡ count_of p (map sort_key xs)
    count_there xs p old e = said (count_of p (map sort_key xs)) (row_at sort_key p (set_rows sort_key xs [])) old (sym (count_at_sort_key xs p) ∙ e)

    unmapped : (n : ℕ) (o : Option R) → option_map (counted n) o ≡ None → o ≡ None
    unmapped n None e = refl
    unmapped n (Some r) e = absurd (none-some (counted n r) (sym e))

    -- a sort key without a row doesn't appear
    pub count_missing : (xs : List R) (p : SortKey) → row_at sort_key p (count_rows sort_key counted xs) ≡ None → count_of p (map sort_key xs) ≡ 0
    count_missing xs p e = (none_counted sort_key p xs [] (unmapped (count_of p (map sort_key xs)) (row_at sort_key p (set_rows sort_key xs [])) (sym (count_at_sort_key xs p) ∙ e))).0

    -- ---- All of them

    weight_by : (p : SortKey) (xs : List R) (o : Option R) → row_at sort_key p (count_rows sort_key counted xs) ≡ o → weight count o ≡ count_of p (map sort_key xs)
    unfolding weight
    weight_by p xs None e = sym (count_missing xs p e)
    weight_by p xs (Some old) e = count_there xs p old e

    total_more : (xs : List R) (x : R) → total count (count_rows sort_key counted (xs ++ x ∷ [])) ≡ total count (count_rows sort_key counted xs) + 1
    total_more xs x =
        let set = total_set sort_key count (next xs x) (count_rows sort_key counted xs) (count_ascend xs) in
        let old : weight count (row_at sort_key (sort_key (next xs x)) (count_rows sort_key counted xs)) ≡ count_of (sort_key x) (map sort_key xs) =
        ap (λ q. weight count (row_at sort_key q (count_rows sort_key counted xs))) (kept (count_of (sort_key x) (map sort_key xs) + 1) x) ∙ weight_by (sort_key x) xs (row_at sort_key (sort_key x) (count_rows sort_key counted xs)) refl in
        ap (total count) (count_rows_more xs x)
        ∙ grown (total count (set_row sort_key (next xs x) (count_rows sort_key counted xs))) (total count (count_rows sort_key counted xs)) (count_of (sort_key x) (map sort_key xs))
        (ap (λ n. total count (set_row sort_key (next xs x) (count_rows sort_key counted xs)) + n) (sym old) ∙ set ∙ ap (λ n. total count (count_rows sort_key counted xs) + n) (told (count_of (sort_key x) (map sort_key xs) + 1) x))
      where
        grown : (a b n : ℕ) → a + n ≡ b + (n + 1) → a ≡ b + 1
        grown a b n e = omega arith

    total_from : (done rest : List R) → total count (count_rows sort_key counted done) ≡ length done → total count (count_rows sort_key counted (done ++ rest)) ≡ length (done ++ rest)
    total_from done [] is = subst (λ l. total count (count_rows sort_key counted l) ≡ length l) (sym (append-nil done)) is
    total_from done (x ∷ rest) is =
        subst (λ l. total count (count_rows sort_key counted l) ≡ length l) (moved done)
        (total_from (done ++ x ∷ []) rest (total_more done x ∙ ap (λ n. n + 1) is ∙ sym (length-append done (x ∷ []))))
      where
        moved : (l : List R) → (l ++ x ∷ []) ++ rest ≡ l ++ x ∷ rest
        moved [] = refl
        moved (y ∷ l) = ap (λ k. y ∷ k) (moved l)

    -- the counts together are all rows
    pub count_rows_total : (xs : List R) → total count (count_rows sort_key counted xs) ≡ length xs
    unfolding count_rows total
    count_rows_total xs = total_from [] xs refl

    -- ---- One row more, by what a call says of its count

    abbrev pub SaysOne : SortKey → List R → ℕ → Type 0
    SaysOne p rows n = row_at sort_key p rows ≡ None → n ≡ 1

    abbrev pub SaysMore : SortKey → List R → ℕ → Type 0
    SaysMore p rows n = (old : R) → row_at sort_key p rows ≡ Some old → count old + 1 < 18446744073709551616 → n ≡ count old + 1

    next_by : (xs : List R) (p : SortKey) (n : ℕ) → SaysOne p (count_rows sort_key counted xs) n → SaysMore p (count_rows sort_key counted xs) n → count_of p (map sort_key xs) + 1 < 18446744073709551616
        → (o : Option R) → row_at sort_key p (count_rows sort_key counted xs) ≡ o → n ≡ count_of p (map sort_key xs) + 1
    next_by xs p n one more few None e = one e ∙ ap (λ k. k + 1) (sym (count_missing xs p e))
    next_by xs p n one more few (Some old) e =
        let is : count old ≡ count_of p (map sort_key xs) = count_there xs p old e in
        more old e (omega arith) ∙ ap (λ k. k + 1) is

    pub one_counted : (xs : List R) (x y : R) (n : ℕ) (rows rows' : List R) → rows ≡ count_rows sort_key counted xs → count_of (sort_key x) (map sort_key xs) + 1 < 18446744073709551616 → SaysOne (sort_key x) rows n → SaysMore (sort_key x) rows n
        → y ≡ counted n x → rows' ≡ set_row sort_key y rows → rows' ≡ count_rows sort_key counted (xs ++ x ∷ [])
    one_counted xs x y n rows rows' are few one more numbered' put =
        let number : n ≡ count_of (sort_key x) (map sort_key xs) + 1 =
        next_by xs (sort_key x) n (subst (λ rs. SaysOne (sort_key x) rs n) are one) (subst (λ rs. SaysMore (sort_key x) rs n) are more) few (row_at sort_key (sort_key x) (count_rows sort_key counted xs)) refl in
        put ∙ (λ i. set_row sort_key (numbered' i) (are i)) ∙ ap (λ m. set_row sort_key (counted m x) (count_rows sort_key counted xs)) number ∙ sym (count_rows_more xs x)
