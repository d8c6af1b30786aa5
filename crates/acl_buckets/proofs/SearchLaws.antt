-- Where a search among the buckets ends.
use Rattle.std.proofs.Common.{◌≡◌, ℕ, zero, suc, ◌<◌, ◌≤◌, List, [], ◌∷◌, length, get_or, Some, Result, Ok, Err, inl, inr, refl, sym, ap, subst, ◌∙◌, arith}
use Rattle.std.specs.List.{slice_get}
use Rattle.std.specs.List.Sorted.{IsSearchInRange, IsBinarySearchResult, IsNonDecreasingBy}
use Rattle.std.specs.Ordering.{ordering_index}
use Rattle.std.specs.declared.cmp.Ordering.{Ordering}
use Rattle.std.specs.declared.cmp.Ordering.TheVariants.{Less, Equal, Greater}
use Rattle.std.proofs.lemmas.Bool.{cases_eq}
use Rattle.std.proofs.lemmas.List.{get_or_default}
use Rattle.std.proofs.lemmas.Option.{slice_get_read}
use Rattle.base_rows.specs.Sortable.{sort_key_cmp, index_in, one_on, SortKeysAbove, SortKeysAscend}
use Rattle.base_rows.proofs.SortableLaws.{sort_key_cmp_exact, sort_key_cmp_trans, sort_key_cmp_turned, index_in_row}
use Rattle.acl_buckets.specs.declared.binding_parts.Bucket.{Bucket}
use Rattle.acl_buckets.specs.BindingParts.{bucket_sort_key}

module _ (t : List ℕ) where
  abbrev step : Result ℕ ℕ → Ordering → Result ℕ ℕ
  step rest o = elim o [ Less ↦ Err 0 | Equal ↦ Ok 0 | Greater ↦ one_on rest ]

  abbrev stands : Bucket → Ordering
  stands s = sort_key_cmp (bucket_sort_key s) t

  -- the sort keys before an index are less, and those from it on are greater
  gap : (ss : List Bucket) (i : ℕ) → i ≤ length ss → ((k : ℕ) (d : Bucket) → k < i → stands (get_or ss k d) ≡ Less) → ((k : ℕ) (d : Bucket) → i ≤ k → k < length ss → stands (get_or ss k d) ≡ Greater) → Err i ≡ index_in bucket_sort_key t ss
  gap [] i le before after = ap Err (none i le)
    where
      none : (i : ℕ) → i ≤ 0 → i ≡ 0
      none i le = omega arith
  gap (x ∷ xs) zero le before after = sym (ap (step (index_in bucket_sort_key t xs)) (sort_key_cmp_turned (bucket_sort_key x) t Greater (after 0 x (omega arith) (omega arith))))
  gap (x ∷ xs) (suc i) le before after =
      ap one_on (gap xs i (omega arith) (λ k d lt. before (suc k) d (omega arith)) (λ k d more lt. after (suc k) d (omega arith) (omega arith)))
      ∙ sym (ap (step (index_in bucket_sort_key t xs)) (sort_key_cmp_turned (bucket_sort_key x) t Less (before 0 x (omega arith))))

  above_get : (p : List ℕ) (ss : List Bucket) (k : ℕ) (d : Bucket) → SortKeysAbove bucket_sort_key p ss → k < length ss → sort_key_cmp p (bucket_sort_key (get_or ss k d)) ≡ Less
  above_get p [] k d above lt = absurd (omega arith)
  above_get p (x ∷ xs) zero d above lt = above.0
  above_get p (x ∷ xs) (suc k) d above lt = above_get p xs k d above.1 (omega arith)

  pairs : (ss : List Bucket) → SortKeysAscend bucket_sort_key ss → (j k : ℕ) (d : Bucket) → j < k → k < length ss → sort_key_cmp (bucket_sort_key (get_or ss j d)) (bucket_sort_key (get_or ss k d)) ≡ Less
  pairs [] up j k d lt within = absurd (omega arith)
  pairs (x ∷ xs) up j zero d lt within = absurd (omega arith)
  pairs (x ∷ xs) up zero (suc k) d lt within = above_get (bucket_sort_key x) xs k d up.0 (omega arith)
  pairs (x ∷ xs) up (suc j) (suc k) d lt within = pairs xs up.1 j k d (omega arith) (omega arith)

  index_few : (o : Ordering) → ordering_index o ≤ 2
  index_few Less = omega arith
  index_few Equal = omega arith
  index_few Greater = omega arith

  zero_few : (o p : Ordering) → o ≡ Less → ordering_index o ≤ ordering_index p
  zero_few o p e = subst (λ (q : Ordering). ordering_index q ≤ ordering_index p) (sym e) (least p)
    where
      least : (p : Ordering) → ordering_index Less ≤ ordering_index p
      least Less = omega arith
      least Equal = omega arith
      least Greater = omega arith

  rise_by : (p q : List ℕ) → sort_key_cmp p q ≡ Less → (o : Ordering) → sort_key_cmp q t ≡ o → ordering_index (sort_key_cmp p t) ≤ ordering_index o
  rise_by p q less Less e = zero_few (sort_key_cmp p t) Less (sort_key_cmp_trans p q t less e)
  rise_by p q less Equal e = zero_few (sort_key_cmp p t) Equal (subst (λ (r : List ℕ). sort_key_cmp p r ≡ Less) (sort_key_cmp_exact q t e) less)
  rise_by p q less Greater e = index_few (sort_key_cmp p t)

  rises : (ss : List Bucket) → SortKeysAscend bucket_sort_key ss → IsNonDecreasingBy (λ s. ordering_index (stands s)) ss
  rises ss up j k d le within = elim (cases_eq j k) [
    | inl same ↦ subst (λ (n : ℕ). ordering_index (stands (get_or ss j d)) ≤ ordering_index (stands (get_or ss n d))) same (omega arith)
    | inr other ↦ rise_by (bucket_sort_key (get_or ss j d)) (bucket_sort_key (get_or ss k d)) (pairs ss up j k d (omega arith) within) (stands (get_or ss k d)) refl
  ]

  found : (ss : List Bucket) (i : ℕ) → SortKeysAscend bucket_sort_key ss → i < length ss → ((d : Bucket) → stands (get_or ss i d) ≡ Equal) → Ok i ≡ index_in bucket_sort_key t ss
  found [] i up within equal = absurd (omega arith)
  found (y ∷ ys) i up within equal =
      let x : Bucket = get_or (y ∷ ys) i y in
      let read : x ≡ get_or (y ∷ ys) i x = get_or_default (y ∷ ys) i y x within in
      let at : slice_get (y ∷ ys) i ≡ Some x = slice_get_read (y ∷ ys) (length (y ∷ ys)) i x refl within read in
      sym (index_in_row bucket_sort_key (y ∷ ys) i x up at)
      ∙ ap (λ (p : List ℕ). index_in bucket_sort_key p (y ∷ ys)) (sort_key_cmp_exact (bucket_sort_key x) t (equal y))

  -- the answer of a binary search is the index of the sort key
  pub searched : (ss : List Bucket) (r : Result ℕ ℕ) → SortKeysAscend bucket_sort_key ss → IsSearchInRange r (length ss) → IsBinarySearchResult stands ss r → r ≡ index_in bucket_sort_key t ss
  searched ss (Ok i) up within equal = found ss i up within equal
  searched ss (Err i) up within parted = gap ss i within (λ k d lt. (parted (rises ss up)).0 k d (omega arith) lt) (λ k d more lt. (parted (rises ss up)).1 k d more lt)
