-- What the buckets hold, one after the other.
use Rattle.std.proofs.Common.{◌≡◌, ℕ, zero, suc, ◌+◌, ◌<◌, ◌≤◌, Bool, true, false, cond, List, [], ◌∷◌, ◌++◌, length, set, get_or, refl, sym, ap, subst, ◌∙◌, arith, append-nil}
use Rattle.std.specs.Prelude.{filter}
use Rattle.std.specs.List.{AllByRecursion}
use Rattle.std.proofs.lemmas.List.{get_or-set_same, get_or-set_other, get_or_past, get_or_read}
use Rattle.std.proofs.lemmas.List.Elements.{filter-append}
use Rattle.base_rows.specs.Sortable.{is_under, SortKeysAbove, SortKeysBelow}
use Rattle.base_rows.proofs.IndexLaws.{above-append}
use Rattle.mud_base.specs.declared.addr.Addr.{Addr}
use Rattle.mud_base.specs.declared.packet.Direction.{Direction}
use Rattle.acl_rows.specs.declared.row.Owner.{Owner}
use Rattle.acl_rows.specs.declared.row.Row.{Row}
use Rattle.acl_rows.specs.SortKeys.{side_sort_key, row_sort_key}
use Rattle.acl_rows.specs.View.{rows_of_side}
use Rattle.acl_rows.specs.ByAddress.{SideRows, rows_of_peer}
use Rattle.acl_rows.proofs.Parts.{side_few}
use Rattle.acl_buckets.specs.RowBuckets.{bucket_number}
use Rattle.acl_buckets.specs.RowParts.{row_number, Parts, nothing, part_at, joined, AreSorted, AreBucketed}
use Rattle.acl_buckets.proofs.Numbers.{rows_rise, on_under, under_on}
use Rattle.acl_buckets.proofs.Beside.{peer_beside}

-- the rows in the buckets have their numbers, where the first one's is n
abbrev pub On : ℕ → Parts → Type 0
On n parts = (k : ℕ) → AllByRecursion (λ r. row_number r ≡ n + k) (part_at parts k).rows

pub from_zero : (parts : Parts) → AreSorted parts → On 0 parts
from_zero parts sorted k = subst (λ (m : ℕ). AllByRecursion (λ r. row_number r ≡ m) (part_at parts k).rows) (zero_more k) (sorted.each k)
  where
    zero_more : (k : ℕ) → k ≡ 0 + k
    zero_more k = omega arith

pub first_on : (n : ℕ) (s : SideRows) (ss : Parts) → On n (s ∷ ss) → AllByRecursion (λ r. row_number r ≡ n) s.rows
unfolding part_at
first_on n s ss on = subst (λ (m : ℕ). AllByRecursion (λ r. row_number r ≡ m) s.rows) (no_more n) (on 0)
  where
    no_more : (n : ℕ) → n + 0 ≡ n
    no_more n = omega arith

pub rest_on : (n : ℕ) (s : SideRows) (ss : Parts) → On n (s ∷ ss) → On (suc n) ss
unfolding part_at
rest_on n s ss on k = subst (λ (m : ℕ). AllByRecursion (λ r. row_number r ≡ m) (get_or ss k nothing).rows) (one_more n k) (on (suc k))
  where
    one_more : (n k : ℕ) → n + suc k ≡ suc n + k
    one_more n k = omega arith

-- ---- One bucket

pub part_read : (parts : Parts) (k : ℕ) (x : SideRows) → k < length parts → x ≡ get_or parts k x → x ≡ part_at parts k
unfolding part_at
part_read parts k x lt is = get_or_read parts k x lt is nothing

pub part_past : (parts : Parts) (k : ℕ) → length parts ≤ k → part_at parts k ≡ nothing
unfolding part_at
part_past parts k past = get_or_past parts k nothing past

pub set_here : (parts : Parts) (k : ℕ) (part : SideRows) → k < length parts → part_at (set parts k part) k ≡ part
unfolding part_at
set_here parts k part lt = get_or-set_same parts k part nothing lt

pub set_other : (parts : Parts) (k j : ℕ) (part : SideRows) → (j ≡ k → ⊥) → part_at (set parts k part) j ≡ part_at parts j
unfolding part_at
set_other parts k j part other = get_or-set_other parts k j part nothing other

-- ---- The order of rows in different buckets

pub above_list : (r : Row) (k : ℕ) (xs : List Row) → AllByRecursion (λ x. row_number x ≡ k) xs → row_number r < k → SortKeysAbove row_sort_key (row_sort_key r) xs
above_list r k [] on lt = tt
above_list r k (x ∷ xs) on lt = (rows_rise r x (omega (arith, on.0)), above_list r k xs on.1 lt)

pub below_list : (r : Row) (k : ℕ) (xs : List Row) → AllByRecursion (λ x. row_number x ≡ k) xs → k < row_number r → SortKeysBelow row_sort_key (row_sort_key r) xs
below_list r k [] on lt = tt
below_list r k (x ∷ xs) on lt = (rows_rise x r (omega (arith, on.0)), below_list r k xs on.1 lt)

pub above_joined : (n : ℕ) (parts : Parts) (r : Row) → On n parts → row_number r < n → SortKeysAbove row_sort_key (row_sort_key r) (joined parts)
unfolding joined
above_joined n [] r on lt = tt
above_joined n (s ∷ ss) r on lt = above-append row_sort_key (row_sort_key r) s.rows (joined ss) (above_list r n s.rows (first_on n s ss on) lt) (above_joined (suc n) ss r (rest_on n s ss on) (omega arith))

-- ---- The rows of an owner and side

kept_on : (o : Owner) (s : Direction) (k : ℕ) (xs : List Row) → AllByRecursion (λ r. row_number r ≡ k) xs → bucket_number o s ≡ k → filter (is_under row_sort_key (side_sort_key o s)) xs ≡ xs
kept_on o s k [] on is = refl
kept_on o s k (x ∷ xs) on is =
    ap (λ (b : Bool). cond b (x ∷ filter (is_under row_sort_key (side_sort_key o s)) xs) (filter (is_under row_sort_key (side_sort_key o s)) xs)) (on_under o s x (on.0 ∙ sym is))
    ∙ ap (λ (rs : List Row). x ∷ rs) (kept_on o s k xs on.1 is)

left_by : (x : Row) (xs : List Row) (b : Bool) → (b ≡ true → ⊥) → cond b (x ∷ xs) xs ≡ xs
left_by x xs true other = absurd (other refl)
left_by x xs false other = refl

left_out : (o : Owner) (s : Direction) (k : ℕ) (xs : List Row) → AllByRecursion (λ r. row_number r ≡ k) xs → (bucket_number o s ≡ k → ⊥) → filter (is_under row_sort_key (side_sort_key o s)) xs ≡ []
left_out o s k [] on other = refl
left_out o s k (x ∷ xs) on other =
    left_by x (filter (is_under row_sort_key (side_sort_key o s)) xs) (is_under row_sort_key (side_sort_key o s) x) (λ under. other (sym (under_on o s x under) ∙ on.0))
    ∙ left_out o s k xs on.1 other

none_before : (o : Owner) (s : Direction) (n : ℕ) (parts : Parts) → On n parts → bucket_number o s < n → rows_of_side o s (joined parts) ≡ []
unfolding joined rows_of_side
none_before o s n [] on lt = refl
none_before o s n (x ∷ xs) on lt =
    filter-append (is_under row_sort_key (side_sort_key o s)) x.rows (joined xs)
    ∙ (λ i. left_out o s n x.rows (first_on n x xs on) (λ is. omega arith) i ++ none_before o s (suc n) xs (rest_on n x xs on) (omega arith) i)

side_from : (o : Owner) (s : Direction) (n k : ℕ) (parts : Parts) → On n parts → bucket_number o s ≡ n + k → rows_of_side o s (joined parts) ≡ (part_at parts k).rows
unfolding joined rows_of_side part_at
side_from o s n k [] on is = refl
side_from o s n zero (x ∷ xs) on is =
    filter-append (is_under row_sort_key (side_sort_key o s)) x.rows (joined xs)
    ∙ (λ i. kept_on o s n x.rows (first_on n x xs on) (omega arith) i ++ none_before o s (suc n) xs (rest_on n x xs on) (omega arith) i)
    ∙ append-nil x.rows
side_from o s n (suc k) (x ∷ xs) on is =
    filter-append (is_under row_sort_key (side_sort_key o s)) x.rows (joined xs)
    ∙ (λ i. left_out o s n x.rows (first_on n x xs on) (λ other. omega arith) i ++ side_from o s (suc n) k xs (rest_on n x xs on) (omega arith) i)

-- the rows of an owner and side are those in its bucket
pub side_joined : (o : Owner) (s : Direction) (parts : Parts) → AreSorted parts → rows_of_side o s (joined parts) ≡ (part_at parts (bucket_number o s)).rows
side_joined o s parts sorted = side_from o s 0 (bucket_number o s) parts (from_zero parts sorted) (omega arith)

-- and those of an address are among these
pub peer_joined : (o : Owner) (s : Direction) (a : Addr) (parts : Parts) → AreSorted parts → rows_of_peer o s a (joined parts) ≡ rows_of_peer o s a (part_at parts (bucket_number o s)).rows
peer_joined o s a parts sorted = sym (peer_beside o s a (joined parts)) ∙ ap (rows_of_peer o s a) (side_joined o s parts sorted)

-- ---- Before anything stands there

pub nothing_bucketed : (parts : Parts) (none : List Row) → parts ≡ [] → none ≡ [] → AreBucketed parts none
unfolding part_at joined
nothing_bucketed parts none empty none_is = record {
  sorted = subst AreSorted (sym empty) (record { own = λ k lt. absurd (omega arith); each = λ k. tt; ascend = tt });
  none_is = none_is;
}

pub joined_none : (parts : Parts) → parts ≡ [] → joined parts ≡ []
unfolding joined
joined_none parts empty = ap joined empty

-- ---- What is lent

pub side_lent : (o : Owner) (s : Direction) (parts : Parts) (none part : List Row) → AreBucketed parts none → part ≡ (part_at parts (bucket_number o s)).rows → part ≡ rows_of_side o s (joined parts)
side_lent o s parts none part bucketed is = is ∙ sym (side_joined o s parts bucketed.sorted)

pub lent_few : (o : Owner) (s : Direction) (parts : Parts) (none part : List Row) → AreBucketed parts none → part ≡ (part_at parts (bucket_number o s)).rows → length part ≤ length (joined parts)
lent_few o s parts none part bucketed is = subst (λ (rows : List Row). length rows ≤ length (joined parts)) (sym (side_lent o s parts none part bucketed is)) (side_few o s (joined parts))
