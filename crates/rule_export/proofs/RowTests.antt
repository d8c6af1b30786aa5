-- Rows that are put in order, each once, where the sort key tells the whole row.
use Rattle.std.proofs.Common.{◌≡◌, ℕ, Bool, true, false, cond, List, [], ◌∷◌, Some, None, refl, sym, ap, subst, ◌∙◌}
use Rattle.std.specs.List.{list_any, AllByRecursion}
use Rattle.std.proofs.lemmas.Bool.{false≢true}
use Rattle.std.proofs.lemmas.Option.{none-some}
use Rattle.base_rows.specs.Sortable.{row_at, set_rows, SortKeysAscend}
use Rattle.base_rows.proofs.SortableLaws.{same_sort_key_exact, same_sort_key_itself, ascend-set_rows}
use Rattle.base_rows.proofs.RowLaws.{sort_key_row_at}
use Rattle.base_rows.proofs.RowSets.{stands_at, Passing, row_at-set_alike, same_rows_by, found_passing, passing_found}
use Rattle.base_rows.proofs.ListTests.{both_ways, any_first, any_later, any_by, any_more}

module _ {R : Type 0} (sort_key : R → List ℕ) (exact : (x y : R) → sort_key x ≡ sort_key y → x ≡ y) where
  same_row : (x r : R) → stands_at sort_key (sort_key r) x ≡ true → Some r ≡ Some x
  same_row x r e = ap Some (sym (exact x r (same_sort_key_exact (sort_key x) (sort_key r) e)))

  all_same : (r : R) (xs : List R) → AllByRecursion (λ x. stands_at sort_key (sort_key r) x ≡ true → Some r ≡ Some x) xs
  all_same r [] = tt
  all_same r (x ∷ xs) = (same_row x r, all_same r xs)

  pub ordered_at : (r : R) (xs : List R) → row_at sort_key (sort_key r) (set_rows sort_key xs []) ≡ cond (list_any (stands_at sort_key (sort_key r)) xs) (Some r) None
  ordered_at r xs = row_at-set_alike sort_key (sort_key r) (Some r) xs [] (all_same r xs)

  record Found (t : R → Bool) (xs : List R) : Type 0 where
    pub row : R
    pub passes : t row ≡ true
    pub among : list_any (stands_at sort_key (sort_key row)) xs ≡ true

  found : (t : R → Bool) (xs : List R) → list_any t xs ≡ true → Found t xs
  found t [] e = absurd (false≢true e)
  found t (x ∷ xs) e =
      any_by t x xs
      (λ is. record { row = x; passes = is; among = any_first (stands_at sort_key (sort_key x)) x xs (same_sort_key_itself (sort_key x)) })
      (λ rest. let later : Found t xs = found t xs rest in record { row = later.row; passes = later.passes; among = any_later (stands_at sort_key (sort_key later.row)) x xs later.among })
      e

  there : (b : Bool) (r : R) → cond b (Some r) None ≡ Some r → b ≡ true
  there true r e = refl
  there false r e = absurd (none-some r e)

  up : (xs : List R) → SortKeysAscend sort_key (set_rows sort_key xs [])
  up xs = ascend-set_rows sort_key xs [] tt

  pub any-ordered : (t : R → Bool) (xs : List R) → list_any t (set_rows sort_key xs []) ≡ list_any t xs
  any-ordered t xs = both_ways (list_any t (set_rows sort_key xs [])) (list_any t xs)
      (λ e.
      let p : Passing sort_key t (set_rows sort_key xs []) = found_passing sort_key t (set_rows sort_key xs []) (up xs) e in
      let at : sort_key p.row ≡ p.at = sort_key_row_at sort_key p.at (set_rows sort_key xs []) p.row p.there in
      let is : row_at sort_key (sort_key p.row) (set_rows sort_key xs []) ≡ Some p.row = subst (λ q. row_at sort_key q (set_rows sort_key xs []) ≡ Some p.row) (sym at) p.there in
      let among : list_any (stands_at sort_key (sort_key p.row)) xs ≡ true = there (list_any (stands_at sort_key (sort_key p.row)) xs) p.row (sym (ordered_at p.row xs) ∙ is) in
      any_more (stands_at sort_key (sort_key p.row)) t xs (λ x same. ap t (exact x p.row (same_sort_key_exact (sort_key x) (sort_key p.row) same)) ∙ p.passes) among)
      (λ e.
      let f : Found t xs = found t xs e in
      passing_found sort_key t (set_rows sort_key xs []) (sort_key f.row) f.row (ordered_at f.row xs ∙ ap (λ b. cond b (Some f.row) None) f.among) f.passes)

  -- rows of which every test says the same are the same once they are in order
  pub ordered_alike : (xs ys : List R) → ((t : R → Bool) → list_any t xs ≡ list_any t ys) → set_rows sort_key xs [] ≡ set_rows sort_key ys []
  ordered_alike xs ys alike = same_rows_by sort_key (set_rows sort_key xs []) (set_rows sort_key ys []) (up xs) (up ys)
      (λ r. ordered_at r xs ∙ ap (λ b. cond b (Some r) None) (alike (stands_at sort_key (sort_key r))) ∙ sym (ordered_at r ys))
