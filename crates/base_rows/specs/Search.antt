-- Where a search among rows ends. It sees each row as the answer that a comparison with it gives.
use Rattle.std.specs.Prelude.{◌≡◌, ℕ, ◌<◌, ◌≤◌, List, length, slice_index_or}
use Rattle.std.specs.Ordering.{ordering_index}
use Rattle.std.specs.declared.cmp.Ordering.{Ordering}
use Rattle.std.specs.declared.cmp.Ordering.TheVariants.{Less, Equal, Greater}
use Rattle.base_rows.specs.Sortable.{sort_key_cmp, prefix_cmp}

-- the answers go from `Greater` over `Equal` to `Less`
abbrev pub AnswersFall : List Ordering → Type 0
AnswersFall os = (i j : ℕ) → i ≤ j → j < length os → ordering_index (slice_index_or os j Equal) ≤ ordering_index (slice_index_or os i Equal)

-- `Greater` before this index
abbrev pub AllGreaterBefore : List Ordering → ℕ → Type 0
AllGreaterBefore os i = (k : ℕ) → k < i → slice_index_or os k Equal ≡ Greater

-- `Less` from this index on
abbrev pub AllLessFrom : List Ordering → ℕ → Type 0
AllLessFrom os i = (k : ℕ) → i ≤ k → k < length os → slice_index_or os k Equal ≡ Less

-- `Equal` from the first index up to the second
abbrev pub AllEqualWithin : List Ordering → ℕ → ℕ → Type 0
AllEqualWithin os i j = (k : ℕ) → i ≤ k → k < j → slice_index_or os k Less ≡ Equal

-- the answer is `Equal` at an index between two others, and nowhere outside these
pub record IsMeeting (os : List Ordering) (start at end : ℕ) : Type 0 where
  pub start_le : start ≤ at
  pub at_lt : at < end
  pub end_le : end ≤ length os
  pub before : AllGreaterBefore os start
  pub meets : slice_index_or os at Less ≡ Equal
  pub after : AllLessFrom os end

-- no answer is `Equal`, and the answers change at this index
pub record IsGap (os : List Ordering) (i : ℕ) : Type 0 where
  pub within : i ≤ length os
  pub before : AllGreaterBefore os i
  pub after : AllLessFrom os i

-- how a sort key, and a beginning of sort keys, stand to a row
abbrev pub sort_key_answer : {R : Type 0} → (R → List ℕ) → List ℕ → R → Ordering
sort_key_answer sort_key p x = sort_key_cmp p (sort_key x)

abbrev pub prefix_answer : {R : Type 0} → (R → List ℕ) → List ℕ → R → Ordering
prefix_answer sort_key p x = prefix_cmp p (sort_key x)
