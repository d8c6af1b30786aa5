-- The numbers of buckets: they rise with the sort keys of rows, and each is of one owner and side.
use Rattle.std.proofs.Common.{◌≡◌, ℕ, ◌+◌, ◌*◌, ◌<◌, ◌≤◌, Bool, true, cond, List, [], ◌∷◌, ◌++◌, inl, inr, refl, sym, ap, ◌∙◌, arith}
use Rattle.std.specs.Prelude.{nat_eq}
use Rattle.std.specs.Ordering.{nat_cmp, ordering_then}
use Rattle.std.specs.declared.cmp.Ordering.{Ordering}
use Rattle.std.specs.declared.cmp.Ordering.TheVariants.{Less, Equal, Greater}
use Rattle.std.proofs.lemmas.Bool.{eqb-true, eq-eqb, lt-ltb, le-ltb, and_parts, cases_lt}
use Rattle.base_rows.specs.Sortable.{sort_key_cmp, is_under}
use Rattle.base_rows.specs.Addresses.{addr_sort_key}
use Rattle.base_rows.proofs.ListTests.{same_number}
use Rattle.mud_base.specs.declared.packet.Direction.{Direction}
use Rattle.mud_base.specs.declared.packet.Direction.TheVariants.{From, To}
use Rattle.acl_rows.specs.declared.row.Owner.{Owner}
use Rattle.acl_rows.specs.declared.row.Owner.TheVariants.{Url, Default}
use Rattle.acl_rows.specs.declared.row.Row.{Row}
use Rattle.mud_base.specs.Directions.{side_number}
use Rattle.acl_rows.specs.SortKeys.{owner_class, owner_number, owner_sort_key, side_sort_key, peer_sort_key, sort_key_at, row_sort_key}
use Rattle.acl_buckets.specs.RowBuckets.{bucket_number}
use Rattle.acl_buckets.specs.RowParts.{row_number}

-- ---- A lesser number stands in a bucket before

first_less : (m n : ℕ) (o : Ordering) → m < n → ordering_then (nat_cmp m n) o ≡ Less
first_less m n o lt = ap (λ (b : Bool). ordering_then (cond b Less (cond (nat_eq m n) Equal Greater)) o) (lt-ltb m n lt)

first_same : (m n : ℕ) (o : Ordering) → m ≡ n → ordering_then (nat_cmp m n) o ≡ o
first_same m n o e =
    ap (λ (b : Bool). ordering_then (cond b Less (cond (nat_eq m n) Equal Greater)) o) (le-ltb m n (omega arith))
    ∙ ap (λ (b : Bool). ordering_then (cond b Equal Greater) o) (eq-eqb m n e)

by_url : (m n a b : ℕ) (u v : List ℕ) → 2 * (1 + m) + a < 2 * (1 + n) + b → a ≤ 1 → b ≤ 1 → sort_key_cmp (1 ∷ (m ∷ (a ∷ u))) (1 ∷ (n ∷ (b ∷ v))) ≡ Less
by_url m n a b u v lt few few' = elim (cases_lt m n) [
  | inl less ↦ first_less m n (sort_key_cmp (a ∷ u) (b ∷ v)) less
  | inr more ↦ first_same m n (sort_key_cmp (a ∷ u) (b ∷ v)) (omega arith) ∙ first_less a b (sort_key_cmp u v) (omega arith)
]

side_few : (s : Direction) → side_number s ≤ 1
unfolding side_number
side_few From = omega arith
side_few To = omega arith

rising : (o p : Owner) (s t : Direction) (u v : List ℕ) → bucket_number o s < bucket_number p t → sort_key_cmp (side_sort_key o s ++ u) (side_sort_key p t ++ v) ≡ Less
unfolding bucket_number side_sort_key owner_sort_key owner_class owner_number
rising Default Default s t u v lt = first_less (side_number s) (side_number t) (sort_key_cmp u v) (omega arith)
rising Default (Url n) s t u v lt = refl
rising (Url m) Default s t u v lt = absurd (omega (arith, side_few s, side_few t))
rising (Url m) (Url n) s t u v lt = by_url m n (side_number s) (side_number t) u v lt (side_few s) (side_few t)

pub rows_rise : (r x : Row) → row_number r < row_number x → sort_key_cmp (row_sort_key r) (row_sort_key x) ≡ Less
unfolding row_number row_sort_key sort_key_at peer_sort_key side_sort_key owner_sort_key
rows_rise r x lt = rising r.owner x.owner r.side x.side (addr_sort_key r.addr ++ r.entry ∷ []) (addr_sort_key x.addr ++ x.entry ∷ []) lt

-- ---- Each number is of one owner and side

pub record AreOne (o p : Owner) (s t : Direction) : Type 0 where
  pub owner : o ≡ p
  pub side : s ≡ t

same_side : (a : ℕ) (s t : Direction) → a + side_number s ≡ a + side_number t → s ≡ t
unfolding side_number
same_side a From From e = refl
same_side a From To e = absurd (omega arith)
same_side a To From e = absurd (omega arith)
same_side a To To e = refl

pub same_bucket : (o p : Owner) (s t : Direction) → bucket_number o s ≡ bucket_number p t → AreOne o p s t
unfolding bucket_number owner_class owner_number
same_bucket Default Default s t e = record { owner = refl; side = same_side 0 s t (omega arith) }
same_bucket Default (Url n) s t e = absurd (omega (arith, side_few s, side_few t))
same_bucket (Url m) Default s t e = absurd (omega (arith, side_few s, side_few t))
same_bucket (Url m) (Url n) s t e =
    let same : m ≡ n = omega (arith, side_few s, side_few t) in
    record { owner = ap Url same; side = same_side 0 s t (omega arith) }

-- ---- The rows of an owner and side are those of its bucket

pub under_itself : (r : Row) → is_under row_sort_key (side_sort_key r.owner r.side) r ≡ true
unfolding row_sort_key sort_key_at peer_sort_key side_sort_key owner_sort_key
under_itself r = rw (same_number (owner_class r.owner), same_number (owner_number r.owner), same_number (side_number r.side)) refl

pub on_under : (o : Owner) (s : Direction) (r : Row) → row_number r ≡ bucket_number o s → is_under row_sort_key (side_sort_key o s) r ≡ true
unfolding row_number
on_under o s r e =
    let same : AreOne r.owner o r.side s = same_bucket r.owner o r.side s e in
    ap (λ (p : List ℕ). is_under row_sort_key p r) (λ i. side_sort_key (sym same.owner i) (sym same.side i)) ∙ under_itself r

pub under_on : (o : Owner) (s : Direction) (r : Row) → is_under row_sort_key (side_sort_key o s) r ≡ true → row_number r ≡ bucket_number o s
unfolding row_number bucket_number row_sort_key sort_key_at peer_sort_key side_sort_key owner_sort_key
under_on o s r e =
    let first = and_parts (nat_eq (owner_class o) (owner_class r.owner)) _ e in
    let second = and_parts (nat_eq (owner_number o) (owner_number r.owner)) _ first.1 in
    let third = and_parts (nat_eq (side_number s) (side_number r.side)) _ second.1 in
    λ i. 2 * (sym (eqb-true (owner_class o) (owner_class r.owner) first.0) i + sym (eqb-true (owner_number o) (owner_number r.owner) second.0) i) + sym (eqb-true (side_number s) (side_number r.side) third.0) i
