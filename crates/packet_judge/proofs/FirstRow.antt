-- The first row of a peer that passes has the least number.
use Rattle.std.proofs.Common.{◌≡◌, ℕ, ◌<◌, Bool, true, false, cond, ◌&&◌, List, [], ◌∷◌, ◌++◌, Option, Some, refl, sym, ap, subst, ◌∙◌, arith}
use Rattle.std.specs.Prelude.{find, filter, nat_eq}
use Rattle.std.specs.Option.{option_map, option_map_or}
use Rattle.std.specs.Ordering.{nat_cmp, ordering_then}
use Rattle.std.specs.declared.cmp.Ordering.{Ordering}
use Rattle.std.specs.declared.cmp.Ordering.TheVariants.{Less, Equal, Greater}
use Rattle.std.proofs.lemmas.Bool.{false≢true, eqb-true, lt-ltb, false_from_ne_true}
use Rattle.std.specs.Cmp.{first_so, second_so}
use Rattle.base_rows.specs.Sortable.{sort_key_cmp, same_sort_key, SortKeysAbove, SortKeysAscend, row_at, is_under, rows_under}
use Rattle.base_rows.proofs.SortableLaws.{sort_key_cmp_itself, same_sort_key_itself, same_sort_key_exact, above_trans, row_at_above}
use Rattle.base_rows.specs.Addresses.{addr_sort_key}
use Rattle.mud_base.specs.declared.addr.Addr.{Addr}
use Rattle.mud_base.specs.declared.packet.Direction.{Direction}
use Rattle.acl_rows.specs.declared.row.Owner.{Owner}
use Rattle.acl_rows.specs.declared.row.Row.{Row}
use Rattle.mud_base.specs.Directions.{side_number}
use Rattle.acl_rows.specs.SortKeys.{owner_class, owner_number, owner_sort_key, side_sort_key, peer_sort_key, sort_key_at, row_sort_key}
use Rattle.acl_rows.specs.View.{rows_of_side, is_at}
use Rattle.acl_rows.proofs.SortKeyOrder.{sort_key_at-cmp}
use Rattle.acl_rows.proofs.Parts.{under_peer, rows_under-peer, sort_key_under}
use Rattle.acl_model.proofs.BindingLaws.{same_addr_exact}
use Rattle.acl_rows.proofs.Coordinates.{AreSame, same_coordinates}
use Rattle.table_model.specs.Expiries.{is_live}
use Rattle.packet_judge.specs.ByRows.{number_of}
use Rattle.packet_judge.proofs.Least.{IsLeastFrom, least_alike}

three : (a b c a' b' c' : ℕ) → (nat_eq a a' && (nat_eq b b' && (nat_eq c c' && true))) ≡ true → (a' ≡ a) × (b' ≡ b) × (c' ≡ c)
three a b c a' b' c' h =
    let later : (nat_eq b b' && (nat_eq c c' && true)) ≡ true = second_so (nat_eq a a') _ h in
    let last : (nat_eq c c' && true) ≡ true = second_so (nat_eq b b') _ later in
    (sym (eqb-true a a' (first_so (nat_eq a a') _ h)), sym (eqb-true b b' (first_so (nat_eq b b') _ later)), sym (eqb-true c c' (first_so (nat_eq c c') _ last)))

-- a row whose sort key begins with that of a peer is of that peer
pub under_at : (o : Owner) (s : Direction) (a : Addr) (x : Row) → is_under row_sort_key (peer_sort_key o s a) x ≡ true → row_sort_key x ≡ sort_key_at o s a x.entry
unfolding row_sort_key sort_key_at peer_sort_key side_sort_key owner_sort_key is_at
under_at o s a x e =
    let both : (is_under row_sort_key (side_sort_key o s) x && is_at a x) ≡ true = sym (under_peer o s a x) ∙ e in
    let sides = three (owner_class o) (owner_number o) (side_number s) (owner_class x.owner) (owner_number x.owner) (side_number x.side) (first_so (is_under row_sort_key (side_sort_key o s) x) (is_at a x) both) in
    let at : x.addr ≡ a = sym (same_addr_exact a x.addr (second_so (is_under row_sort_key (side_sort_key o s) x) (is_at a x) both)) in
    λ i. sides.0 i ∷ (sides.1 i ∷ (sides.2 i ∷ (addr_sort_key (at i) ++ x.entry ∷ [])))

nat_less : (m n : ℕ) → m < n → nat_cmp m n ≡ Less
nat_less m n lt = ap (λ (b : Bool). cond b Less (cond (nat_eq m n) Equal Greater)) (lt-ltb m n lt)

-- a lesser number stands before
pub sort_key_at_less : (o : Owner) (s : Direction) (a : Addr) (m n : ℕ) → m < n → sort_key_cmp (sort_key_at o s a m) (sort_key_at o s a n) ≡ Less
sort_key_at_less o s a m n lt =
    sym (sort_key_at-cmp o o s s a a m n)
    ∙ ap (λ (order : Ordering). ordering_then order (nat_cmp m n)) (sort_key_cmp_itself (peer_sort_key o s a))
    ∙ nat_less m n lt

module _ (o : Owner) (s : Direction) (a : Addr) (now : ℕ) (pass : ℕ → Bool) where
  unfoldable pub live_row : Option Row → Bool
  live_row r = option_map_or (λ x. is_live x.until now) r false

  -- the row of this number is live, and the number passes
  unfoldable pub hit : List Row → ℕ → Bool
  hit rows n = live_row (row_at row_sort_key (sort_key_at o s a n) rows) && pass n

  unfoldable pub row_test : Row → Bool
  row_test r = is_live r.until now && pass r.entry

  abbrev Least : List Row → Option ℕ → Type 0
  Least rows w = IsLeastFrom 0 (hit rows) w

  abbrev found : List Row → Option ℕ
  found rows = option_map number_of (find row_test (filter (is_under row_sort_key (peer_sort_key o s a)) rows))

  -- no row of the number stands behind its sort key
  none_above : (n : ℕ) (rows : List Row) → SortKeysAbove row_sort_key (sort_key_at o s a n) rows → hit rows n ≡ false
  unfolding hit live_row
  none_above n rows above = ap (λ (r : Option Row). live_row r && pass n) (row_at_above row_sort_key (sort_key_at o s a n) rows above)

  pass_over : (x : Row) (xs : List Row) (n : ℕ) → same_sort_key (row_sort_key x) (sort_key_at o s a n) ≡ false → hit xs n ≡ hit (x ∷ xs) n
  unfolding hit
  pass_over x xs n other = sym (ap (λ (b : Bool). live_row (cond b (Some x) (row_at row_sort_key (sort_key_at o s a n) xs)) && pass n) other)

  here : (x : Row) (xs : List Row) (n : ℕ) → same_sort_key (row_sort_key x) (sort_key_at o s a n) ≡ true → hit (x ∷ xs) n ≡ (is_live x.until now && pass n)
  unfolding hit live_row
  here x xs n same = ap (λ (b : Bool). live_row (cond b (Some x) (row_at row_sort_key (sort_key_at o s a n) xs)) && pass n) same

  -- a row of the peer that doesn't pass counts for nothing
  failing : (x : Row) (xs : List Row) (n : ℕ) → SortKeysAbove row_sort_key (row_sort_key x) xs → row_test x ≡ false → (b : Bool) → same_sort_key (row_sort_key x) (sort_key_at o s a n) ≡ b → hit xs n ≡ hit (x ∷ xs) n
  unfolding row_test row_sort_key
  failing x xs n above fails true e =
      let same : AreSame x.owner o x.side s x.addr a x.entry n = same_coordinates x.owner o x.side s x.addr a x.entry n (same_sort_key_exact (row_sort_key x) (sort_key_at o s a n) e) in
      none_above n xs (subst (λ (p : List ℕ). SortKeysAbove row_sort_key p xs) (same_sort_key_exact (row_sort_key x) (sort_key_at o s a n) e) above)
      ∙ sym (here x xs n e ∙ ap (λ (m : ℕ). is_live x.until now && pass m) (sym same.number) ∙ fails)
  failing x xs n above fails false e = pass_over x xs n e

  passing : (x : Row) (xs : List Row) → SortKeysAbove row_sort_key (row_sort_key x) xs → row_sort_key x ≡ sort_key_at o s a x.entry → row_test x ≡ true → Least (x ∷ xs) (Some x.entry)
  unfolding row_test
  passing x xs above at passes = (
    omega arith,
    here x xs x.entry (subst (λ (p : List ℕ). same_sort_key p (sort_key_at o s a x.entry) ≡ true) (sym at) (same_sort_key_itself (sort_key_at o s a x.entry))) ∙ passes,
    λ m le lt.
        let less : sort_key_cmp (sort_key_at o s a m) (row_sort_key x) ≡ Less = subst (λ (p : List ℕ). sort_key_cmp (sort_key_at o s a m) p ≡ Less) (sym at) (sort_key_at_less o s a m x.entry lt) in
        none_above m (x ∷ xs) (less, above_trans row_sort_key (sort_key_at o s a m) (row_sort_key x) xs less above),
  )

  by_test : (x : Row) (xs : List Row) → SortKeysAscend row_sort_key (x ∷ xs) → row_sort_key x ≡ sort_key_at o s a x.entry → Least xs (found xs) → (b : Bool) → row_test x ≡ b → Least (x ∷ xs) (option_map number_of (cond b (Some x) (find row_test (filter (is_under row_sort_key (peer_sort_key o s a)) xs))))
  unfolding number_of
  by_test x xs ascend at rest true e = passing x xs ascend.0 at e
  by_test x xs ascend at rest false e = least_alike 0 (hit xs) (hit (x ∷ xs)) (λ n. failing x xs n ascend.0 e (same_sort_key (row_sort_key x) (sort_key_at o s a n)) refl) (found xs) rest

  by_under : (x : Row) (xs : List Row) → SortKeysAscend row_sort_key (x ∷ xs) → Least xs (found xs) → (b : Bool) → is_under row_sort_key (peer_sort_key o s a) x ≡ b → Least (x ∷ xs) (option_map number_of (find row_test (cond b (x ∷ filter (is_under row_sort_key (peer_sort_key o s a)) xs) (filter (is_under row_sort_key (peer_sort_key o s a)) xs))))
  by_under x xs ascend rest true e = by_test x xs ascend (under_at o s a x e) rest (row_test x) refl
  by_under x xs ascend rest false e =
      least_alike 0 (hit xs) (hit (x ∷ xs)) (λ n. pass_over x xs n (false_from_ne_true (same_sort_key (row_sort_key x) (sort_key_at o s a n)) (λ same. false≢true (sym e ∙ sort_key_under o s a n x same)))) (found xs) rest

  -- the first row of the peer that passes has the least number that does
  pub least-rows : (rows : List Row) → SortKeysAscend row_sort_key rows → Least rows (option_map number_of (find row_test (rows_under row_sort_key (peer_sort_key o s a) rows)))
  unfolding hit live_row
  least-rows [] ascend = λ n le. refl
  least-rows (x ∷ xs) ascend = by_under x xs ascend (least-rows xs ascend.1) (is_under row_sort_key (peer_sort_key o s a) x) refl

  -- the same of the rows of the peer among those of the owner and side
  pub least-peer_rows : (rows : List Row) → SortKeysAscend row_sort_key rows → Least rows (option_map number_of (find row_test (filter (is_at a) (rows_of_side o s rows))))
  least-peer_rows rows ascend = subst (λ (rs : List Row). Least rows (option_map number_of (find row_test rs))) (rows_under-peer o s a rows) (least-rows rows ascend)
