-- The last of some edits that are all of one owner, side and address.
use Rattle.std.proofs.Common.{◌≡◌, ℕ, zero, suc, ◌+◌, ◌-◌, ◌<◌, ◌≤◌, true, false, cond, List, [], ◌∷◌, length, get_or, take, drop, refl, sym, ap, subst, ◌∙◌, arith}
use Rattle.std.specs.List.{AllByRecursion, filter}
use Rattle.std.specs.Ordering.{ordering_index, is_eq}
use Rattle.std.specs.declared.cmp.Ordering.{Ordering}
use Rattle.std.specs.declared.cmp.Ordering.TheVariants.{Less, Equal, Greater}
use Rattle.std.proofs.lemmas.Bool.{false≢true}
use Rattle.std.proofs.lemmas.List.{get_or_default, drop_all}
use Rattle.base_rows.specs.Sortable.{sort_key_cmp, prefix_cmp, is_under, SortKeysAbove, SortKeysAscend}
use Rattle.base_rows.proofs.ProbeLaws.{prefix_falls, is_eq-prefix_cmp}
use Rattle.mud_base.specs.declared.addr.Addr.{Addr}
use Rattle.mud_base.specs.declared.packet.Direction.{Direction}
use Rattle.base_rows.specs.declared.edit.Edit.{Edit}
use Rattle.base_rows.specs.Edits.{edit_sort_key}
use Rattle.base_rows.proofs.EditRunLaws.{first_is}
use Rattle.acl_rows.specs.declared.row.Owner.{Owner}
use Rattle.acl_rows.specs.declared.row.Row.{Row}
use Rattle.acl_rows.specs.SortKeys.{peer_sort_key, row_sort_key}
use Rattle.acl_rows.specs.ByAddress.{IsRowAt, IsEditAt}
use Rattle.acl_buckets.specs.RowBuckets.{edits_of_peer}
use Rattle.acl_buckets.proofs.Beside.{peer_is}
use Rattle.acl_buckets.proofs.RunLaws.{edit_under}

-- ---- A test of the beginning of a sort key is that of an order

pub under_is : {R : Type 0} (sort_key : R → List ℕ) (p : List ℕ) (x : R) → is_under sort_key p x ≡ is_eq (prefix_cmp p (sort_key x))
under_is sort_key p x = is_eq-prefix_cmp p (sort_key x)

-- ---- In front of rows whose sort keys begin so, and one that doesn't, there are none

equal_by : (o : Ordering) → is_eq o ≡ true → ordering_index o ≡ 1
equal_by Less e = absurd (false≢true e)
equal_by Equal e = refl
equal_by Greater e = absurd (false≢true e)

greater_by : (o : Ordering) → is_eq o ≡ false → 1 ≤ ordering_index o → ordering_index o ≡ 2
greater_by Less e le = absurd (omega arith)
greater_by Equal e le = absurd (false≢true (sym e))
greater_by Greater e le = refl

never_by : (o : Ordering) → 2 ≤ ordering_index o → is_eq o ≡ false
never_by Less le = refl
never_by Equal le = absurd (omega arith)
never_by Greater le = refl

module _ {R : Type 0} (sort_key : R → List ℕ) (p : List ℕ) where
  falls : (x y : R) → sort_key_cmp (sort_key x) (sort_key y) ≡ Less → ordering_index (prefix_cmp p (sort_key y)) ≤ ordering_index (prefix_cmp p (sort_key x))
  falls x y less = prefix_falls p (sort_key x) (sort_key y) less

  above_get : (q : List ℕ) (xs : List R) (k : ℕ) (y : R) → SortKeysAbove sort_key q xs → k < length xs → y ≡ get_or xs k y → sort_key_cmp q (sort_key y) ≡ Less
  above_get q [] k y above lt is = absurd (omega arith)
  above_get q (x ∷ xs) zero y above lt is = subst (λ z. sort_key_cmp q (sort_key z) ≡ Less) (sym is) above.0
  above_get q (x ∷ xs) (suc k) y above lt is = above_get q xs k y above.1 (omega arith) is

  next_above : (xs : List R) (k : ℕ) (y z : R) → SortKeysAscend sort_key xs → suc k < length xs → y ≡ get_or xs k y → z ≡ get_or xs (suc k) z → sort_key_cmp (sort_key y) (sort_key z) ≡ Less
  next_above [] k y z up lt is next = absurd (omega arith)
  next_above (x ∷ xs) zero y z up lt is next = subst (λ w. sort_key_cmp (sort_key w) (sort_key z) ≡ Less) (sym is) (above_get (sort_key x) xs 0 z up.0 (omega arith) next)
  next_above (x ∷ xs) (suc k) y z up lt is next = next_above xs k y z up.1 (omega arith) is next

  left_out : (x : R) (xs : List R) → 2 ≤ ordering_index (prefix_cmp p (sort_key x)) → cond (is_under sort_key p x) (x ∷ xs) xs ≡ xs
  left_out x xs le = ap (λ b. cond b (x ∷ xs) xs) (under_is sort_key p x ∙ never_by (prefix_cmp p (sort_key x)) le)

  front : (xs : List R) (n : ℕ) (y : R) → SortKeysAscend sort_key xs → n < length xs → y ≡ get_or xs n y → 2 ≤ ordering_index (prefix_cmp p (sort_key y)) → filter (is_under sort_key p) (take (suc n) xs) ≡ []
  front [] n y up lt is great = absurd (omega arith)
  front (x ∷ xs) zero y up lt is great = left_out x [] (subst (λ z. 2 ≤ ordering_index (prefix_cmp p (sort_key z))) is great)
  front (x ∷ xs) (suc n) y up lt is great =
      left_out x (filter (is_under sort_key p) (take (suc n) xs)) (omega (arith, great, falls x y (above_get (sort_key x) xs n y up.0 (omega arith) is)))
      ∙ front xs n y up.1 (omega arith) is great

  none_front : (xs : List R) (n : ℕ) (y z : R) → SortKeysAscend sort_key xs → suc n < length xs → y ≡ get_or xs n y → z ≡ get_or xs (suc n) z → is_under sort_key p z ≡ true → is_under sort_key p y ≡ false → filter (is_under sort_key p) (take (suc n) xs) ≡ []
  none_front xs n y z up lt is next under other =
      let equal : ordering_index (prefix_cmp p (sort_key z)) ≡ 1 = equal_by (prefix_cmp p (sort_key z)) (sym (under_is sort_key p z) ∙ under) in
      let great : ordering_index (prefix_cmp p (sort_key y)) ≡ 2 = greater_by (prefix_cmp p (sort_key y)) (sym (under_is sort_key p y) ∙ other) (omega (arith, equal, falls y z (next_above xs n y z up lt is next))) in
      front xs n y up (omega arith) is (omega (arith, great))

-- ---- From the last one to the first of its owner, side and address

pub edit_is : (o : Owner) (s : Direction) (a : Addr) (e : Edit Row) → is_under (edit_sort_key row_sort_key) (peer_sort_key o s a) e ≡ true → IsEditAt o s a e
unfolding edit_sort_key
edit_is o s a e under =
    let is : IsRowAt o s a e.row = peer_is o s a e.row under in
    record { owner_is = is.owner_is; side_is = is.side_is; addr_is = is.addr_is }

module _ (o : Owner) (s : Direction) (a : Addr) where
  pub own_last : (es : List (Edit Row)) (n : ℕ) (e : Edit Row) → n + 1 ≡ length es → e ≡ get_or es n e → IsEditAt o s a e → AllByRecursion (IsEditAt o s a) (drop n es)
  own_last es n e long is own = subst (AllByRecursion (IsEditAt o s a)) (sym (first_is es n e (omega arith) is ∙ ap (λ xs. e ∷ xs) (drop_all (n + 1) es (omega arith)))) (own, tt)

  pub own_more : (es : List (Edit Row)) (n : ℕ) (e : Edit Row) → 0 < n → n < length es → e ≡ get_or es (n - 1) e → is_under (edit_sort_key row_sort_key) (peer_sort_key o s a) e ≡ true → AllByRecursion (IsEditAt o s a) (drop n es) → AllByRecursion (IsEditAt o s a) (drop (n - 1) es)
  own_more es n e some lt is own rest =
      let same : n ≡ n - 1 + 1 = omega arith in
      subst (AllByRecursion (IsEditAt o s a)) (sym (first_is es (n - 1) e (omega arith) is)) (edit_is o s a e own, subst (λ k. AllByRecursion (IsEditAt o s a) (drop k es)) same rest)

  by_next : (es : List (Edit Row)) (n : ℕ) (y z : Edit Row) → SortKeysAscend (edit_sort_key row_sort_key) es → suc n < length es → y ≡ get_or es n y → z ≡ get_or es (suc n) z → is_under (edit_sort_key row_sort_key) (peer_sort_key o s a) y ≡ false → AllByRecursion (IsEditAt o s a) (drop (suc n) es) → edits_of_peer o s a (take (suc n) es) ≡ []
  unfolding edits_of_peer
  by_next es n y z up lt is next other own =
      let here : AllByRecursion (IsEditAt o s a) (z ∷ drop (suc n + 1) es) = subst (AllByRecursion (IsEditAt o s a)) (first_is es (suc n) z lt next) own in
      none_front (edit_sort_key row_sort_key) (peer_sort_key o s a) es n y z up lt is next (edit_under o s a z here.0) other

  -- before one that is of another there is none
  pub others_none : (es : List (Edit Row)) (start : ℕ) (y : Edit Row) → SortKeysAscend (edit_sort_key row_sort_key) es → 0 < start → start < length es → y ≡ get_or es (start - 1) y → is_under (edit_sort_key row_sort_key) (peer_sort_key o s a) y ≡ false → AllByRecursion (IsEditAt o s a) (drop start es) → edits_of_peer o s a (take start es) ≡ []
  others_none es start y up some lt is other own =
      let same : start ≡ suc (start - 1) = omega arith in
      let within : suc (start - 1) < length es = omega arith in
      subst (λ k. edits_of_peer o s a (take k es) ≡ []) (sym same)
      (by_next es (start - 1) y (get_or es (suc (start - 1)) y) up within is (get_or_default es (suc (start - 1)) y (get_or es (suc (start - 1)) y) within) other (subst (λ k. AllByRecursion (IsEditAt o s a) (drop k es)) same own))

  pub none_first : (es : List (Edit Row)) (start : ℕ) → start ≤ 0 → edits_of_peer o s a (take start es) ≡ []
  unfolding edits_of_peer
  none_first es zero le = refl
  none_first es (suc n) le = absurd (omega arith)
