-- The rows of an owner and side among all rows, and those of an address among these.
use Rattle.std.proofs.Common.{◌≡◌, ℕ, zero, suc, ◌<◌, Bool, true, false, cond, ◌&&◌, List, [], ◌∷◌, ◌++◌, Some, refl, sym, ap, ◌∙◌, arith}
use Rattle.std.specs.Prelude.{nat_eq, filter, option_map}
use Rattle.std.specs.List.{slice_get}
use Rattle.std.specs.declared.cmp.Ordering.TheVariants.{Less, Greater}
use Rattle.std.proofs.lemmas.Bool.{and_parts}
use Rattle.std.proofs.lemmas.Option.{same_Some, none-some}
use Rattle.base_rows.specs.Sortable.{sort_key_cmp, same_sort_key, row_at, is_under, rows_under, SortKeysAbove, SortKeysAscend}
use Rattle.base_rows.proofs.SortableLaws.{sort_key_cmp_turned}
use Rattle.mud_base.specs.Addresses.{same_addr}
use Rattle.mud_base.specs.declared.addr.Addr.{Addr}
use Rattle.mud_base.specs.declared.packet.Direction.{Direction}
use Rattle.mud_base.specs.declared.packet.Direction.TheVariants.{From, To}
use Rattle.acl_model.proofs.BindingLaws.{same_addr_exact}
use Rattle.acl_rows.specs.declared.row.Owner.{Owner}
use Rattle.acl_rows.specs.declared.row.Row.{Row}
use Rattle.acl_rows.specs.declared.row.RowKey.{RowKey}
use Rattle.mud_base.specs.Directions.{side_number}
use Rattle.acl_rows.specs.SortKeys.{owner_class, owner_number, owner_sort_key, side_sort_key, peer_sort_key, sort_key_at, row_sort_key, named_sort_key}
use Rattle.acl_rows.specs.View.{rows_of_side, is_at}
use Rattle.acl_rows.specs.ByAddress.{rows_of_peer, until_of_row, IsRowAt}
use Rattle.acl_rows.proofs.Parts.{under_peer, rows_under-peer, sort_key_under, under_own}
use Rattle.acl_buckets.specs.RowBuckets.{bucket_number}
use Rattle.acl_buckets.specs.RowParts.{row_number}
use Rattle.acl_buckets.proofs.Numbers.{AreOne, same_bucket, rows_rise, under_on}

-- ---- A row under the sort key of an owner and side is of these

pub side_is : (o : Owner) (s : Direction) (r : Row) → is_under row_sort_key (side_sort_key o s) r ≡ true → AreOne r.owner o r.side s
unfolding row_number
side_is o s r under = same_bucket r.owner o r.side s (under_on o s r under)

kept_by : {R : Type 0} (t : R → Bool) (y : R) (ys : List R) (i : ℕ) (x : R) → ((j : ℕ) → slice_get (filter t ys) j ≡ Some x → t x ≡ true) → (b : Bool) → t y ≡ b → slice_get (cond b (y ∷ filter t ys) (filter t ys)) i ≡ Some x → t x ≡ true
kept_by t y ys zero x rest true is at = ap t (sym (same_Some y x at)) ∙ is
kept_by t y ys (suc i) x rest true is at = rest i at
kept_by t y ys i x rest false is at = rest i at

-- what is kept passes the test
pub kept : {R : Type 0} (t : R → Bool) (ys : List R) (i : ℕ) (x : R) → slice_get (filter t ys) i ≡ Some x → t x ≡ true
kept t [] i x at = absurd (none-some x at)
kept t (y ∷ ys) i x at = kept_by t y ys i x (λ j. kept t ys j x) (t y) refl at

-- ---- The same, once more

again_by : (t : Row → Bool) (x : Row) (xs : List Row) → filter t (filter t xs) ≡ filter t xs → (b : Bool) → t x ≡ b → filter t (cond b (x ∷ filter t xs) (filter t xs)) ≡ cond b (x ∷ filter t xs) (filter t xs)
again_by t x xs rest true is = ap (λ (b : Bool). cond b (x ∷ filter t (filter t xs)) (filter t (filter t xs))) is ∙ ap (λ (rs : List Row). x ∷ rs) rest
again_by t x xs rest false is = rest

again : (t : Row → Bool) (xs : List Row) → filter t (filter t xs) ≡ filter t xs
again t [] = refl
again t (x ∷ xs) = again_by t x xs (again t xs) (t x) refl

pub side_again : (o : Owner) (s : Direction) (rows : List Row) → rows_of_side o s (rows_of_side o s rows) ≡ rows_of_side o s rows
unfolding rows_of_side
side_again o s rows = again (is_under row_sort_key (side_sort_key o s)) rows

-- ---- The row of a sort key

row_by : (t : Row → Bool) (p : List ℕ) (x : Row) (xs : List Row) → (same_sort_key (row_sort_key x) p ≡ true → t x ≡ true) → row_at row_sort_key p (filter t xs) ≡ row_at row_sort_key p xs
    → (b c : Bool) → same_sort_key (row_sort_key x) p ≡ b → t x ≡ c → row_at row_sort_key p (cond c (x ∷ filter t xs) (filter t xs)) ≡ cond b (Some x) (row_at row_sort_key p xs)
row_by t p x xs passes rest true true at is = ap (λ (b : Bool). cond b (Some x) (row_at row_sort_key p (filter t xs))) at
row_by t p x xs passes rest true false at is = absurd (not_both (sym is ∙ passes at))
  where
    not_both : false ≡ true → ⊥
    not_both h = cc
row_by t p x xs passes rest false true at is = ap (λ (b : Bool). cond b (Some x) (row_at row_sort_key p (filter t xs))) at ∙ rest
row_by t p x xs passes rest false false at is = rest

row_kept : (t : Row → Bool) (p : List ℕ) → ((x : Row) → same_sort_key (row_sort_key x) p ≡ true → t x ≡ true) → (rows : List Row) → row_at row_sort_key p (filter t rows) ≡ row_at row_sort_key p rows
row_kept t p passes [] = refl
row_kept t p passes (x ∷ xs) = row_by t p x xs (passes x) (row_kept t p passes xs) (same_sort_key (row_sort_key x) p) (t x) refl refl

-- ---- The rows of one address

-- a row under the sort key of an owner, side and address is of these
pub peer_is : (o : Owner) (s : Direction) (a : Addr) (r : Row) → is_under row_sort_key (peer_sort_key o s a) r ≡ true → IsRowAt o s a r
unfolding is_at
peer_is o s a r under =
    let both = and_parts (is_under row_sort_key (side_sort_key o s) r) (same_addr a r.addr) (sym (under_peer o s a r) ∙ under) in
    let one : AreOne r.owner o r.side s = side_is o s r both.0 in
    record { owner_is = one.owner; side_is = one.side; addr_is = sym (same_addr_exact a r.addr both.1) }

pub peer_under : (o : Owner) (s : Direction) (a : Addr) (r : Row) → IsRowAt o s a r → is_under row_sort_key (peer_sort_key o s a) r ≡ true
peer_under o s a r is = ap (λ (p : List ℕ). is_under row_sort_key p r) (λ i. peer_sort_key (sym is.owner_is i) (sym is.side_is i) (sym is.addr_is i)) ∙ under_own r

-- the rows of an address are among those of the owner and side
pub peer_beside : (o : Owner) (s : Direction) (a : Addr) (rows : List Row) → rows_of_peer o s a (rows_of_side o s rows) ≡ rows_of_peer o s a rows
unfolding rows_of_peer
peer_beside o s a rows = rows_under-peer o s a (rows_of_side o s rows) ∙ ap (filter (is_at a)) (side_again o s rows) ∙ sym (rows_under-peer o s a rows)

-- the row of a sort key is among those of its owner, side and address
pub row_of_peer : (o : Owner) (s : Direction) (a : Addr) (n : ℕ) (rows : List Row) → row_at row_sort_key (sort_key_at o s a n) (rows_of_peer o s a rows) ≡ row_at row_sort_key (sort_key_at o s a n) rows
unfolding rows_of_peer
row_of_peer o s a n rows = row_kept (is_under row_sort_key (peer_sort_key o s a)) (sort_key_at o s a n) (sort_key_under o s a n) rows

-- ---- There are no more of them than rows

-- the rows of an address in the bucket of an owner and side
pub bucket_at : (o : Owner) (s : Direction) (a : Addr) (bucket rows : List Row) → bucket ≡ rows_of_side o s rows → filter (is_at a) bucket ≡ rows_of_peer o s a rows
unfolding rows_of_peer
bucket_at o s a bucket rows is = ap (filter (is_at a)) is ∙ sym (rows_under-peer o s a rows)

-- the expiry of a row is the one among the rows of its owner, side and address
pub until_of_peer : (key : RowKey) (rows : List Row) → until_of_row (named_sort_key key) (rows_of_peer key.owner key.side key.addr rows) ≡ until_of_row (named_sort_key key) rows
unfolding until_of_row named_sort_key
until_of_peer key rows = ap (option_map (λ (row : Row). row.until)) (row_of_peer key.owner key.side key.addr key.entry rows)

-- ---- The rows of an owner are those of its two sides

four : (c n s : Bool) → (c && (n && (s && true))) ≡ ((c && (n && true)) && s)
four true true true = refl
four true true false = refl
four true false s = refl
four false n s = refl

under_side : (o : Owner) (s : Direction) (r : Row) → is_under row_sort_key (side_sort_key o s) r ≡ (is_under row_sort_key (owner_sort_key o) r && nat_eq (side_number s) (side_number r.side))
unfolding row_sort_key sort_key_at peer_sort_key side_sort_key owner_sort_key
under_side o s r = four (nat_eq (owner_class o) (owner_class r.owner)) (nat_eq (owner_number o) (owner_number r.owner)) (nat_eq (side_number s) (side_number r.side))

sent_less : (o : Owner) (x r : Row) → is_under row_sort_key (side_sort_key o From) x ≡ true → is_under row_sort_key (side_sort_key o To) r ≡ true → row_number x < row_number r
unfolding bucket_number side_number
sent_less o x r sent received = omega (arith, under_on o From x sent, under_on o To r received)

sent_first : (o : Owner) (x r : Row) → is_under row_sort_key (side_sort_key o To) r ≡ true → sort_key_cmp (row_sort_key r) (row_sort_key x) ≡ Less → (b : Bool) → is_under row_sort_key (side_sort_key o From) x ≡ b → b ≡ false
sent_first o x r received less false is = refl
sent_first o x r received less true is = absurd (not_less (sym (sort_key_cmp_turned (row_sort_key r) (row_sort_key x) Less less) ∙ rows_rise x r (sent_less o x r is received)))
  where
    not_less : Greater ≡ Less → ⊥
    not_less h = cc

-- behind what is sent to a Thing, nothing of the owner is what the Thing sends
none_sent : (o : Owner) (r : Row) (rows : List Row) → is_under row_sort_key (side_sort_key o To) r ≡ true → SortKeysAbove row_sort_key (row_sort_key r) rows → filter (is_under row_sort_key (side_sort_key o From)) rows ≡ []
none_sent o r [] received above = refl
none_sent o r (x ∷ xs) received above =
    ap (λ (b : Bool). cond b (x ∷ filter (is_under row_sort_key (side_sort_key o From)) xs) (filter (is_under row_sort_key (side_sort_key o From)) xs)) (sent_first o x r received above.0 (is_under row_sort_key (side_sort_key o From) x) refl)
    ∙ none_sent o r xs received above.1

module _ (o : Owner) where
  abbrev own : List Row → List Row
  own rows = filter (is_under row_sort_key (owner_sort_key o)) rows

  abbrev sent : List Row → List Row
  sent rows = filter (is_under row_sort_key (side_sort_key o From)) rows

  abbrev received : List Row → List Row
  received rows = filter (is_under row_sort_key (side_sort_key o To)) rows

  split_own : (x : Row) (xs : List Row) → SortKeysAbove row_sort_key (row_sort_key x) xs → own xs ≡ sent xs ++ received xs → is_under row_sort_key (owner_sort_key o) x ≡ true → (t : Direction) → x.side ≡ t → x ∷ own xs ≡ sent (x ∷ xs) ++ received (x ∷ xs)
  unfolding side_number
  split_own x xs above rest is From side =
      let first : is_under row_sort_key (side_sort_key o From) x ≡ true = under_side o From x ∙ (λ i. is i && nat_eq 0 (side_number (side i))) in
      let second : is_under row_sort_key (side_sort_key o To) x ≡ false = under_side o To x ∙ (λ i. is i && nat_eq 1 (side_number (side i))) in
      ap (λ (rs : List Row). x ∷ rs) rest
      ∙ (λ i. cond (sym first i) (x ∷ sent xs) (sent xs) ++ cond (sym second i) (x ∷ received xs) (received xs))
  split_own x xs above rest is To side =
      let first : is_under row_sort_key (side_sort_key o From) x ≡ false = under_side o From x ∙ (λ i. is i && nat_eq 0 (side_number (side i))) in
      let second : is_under row_sort_key (side_sort_key o To) x ≡ true = under_side o To x ∙ (λ i. is i && nat_eq 1 (side_number (side i))) in
      let none : sent xs ≡ [] = none_sent o x xs second above in
      ap (λ (rs : List Row). x ∷ rs) (rest ∙ ap (λ (rs : List Row). rs ++ received xs) none)
      ∙ ap (λ (rs : List Row). rs ++ x ∷ received xs) (sym none)
      ∙ (λ i. cond (sym first i) (x ∷ sent xs) (sent xs) ++ cond (sym second i) (x ∷ received xs) (received xs))

  split_by : (x : Row) (xs : List Row) → SortKeysAbove row_sort_key (row_sort_key x) xs → own xs ≡ sent xs ++ received xs → (b : Bool) → is_under row_sort_key (owner_sort_key o) x ≡ b → cond b (x ∷ own xs) (own xs) ≡ sent (x ∷ xs) ++ received (x ∷ xs)
  split_by x xs above rest true is = split_own x xs above rest is x.side refl
  split_by x xs above rest false is =
      rest
      ∙ (λ i. cond (sym (under_side o From x ∙ ap (λ (b : Bool). b && nat_eq (side_number From) (side_number x.side)) is) i) (x ∷ sent xs) (sent xs) ++ cond (sym (under_side o To x ∙ ap (λ (b : Bool). b && nat_eq (side_number To) (side_number x.side)) is) i) (x ∷ received xs) (received xs))

  split : (rows : List Row) → SortKeysAscend row_sort_key rows → own rows ≡ sent rows ++ received rows
  split [] up = refl
  split (x ∷ xs) up = split_by x xs up.0 (split xs up.1) (is_under row_sort_key (owner_sort_key o) x) refl

pub owner_split : (o : Owner) (rows : List Row) → SortKeysAscend row_sort_key rows → rows_under row_sort_key (owner_sort_key o) rows ≡ rows_of_side o From rows ++ rows_of_side o To rows
unfolding rows_of_side
owner_split o rows up = split o rows up
