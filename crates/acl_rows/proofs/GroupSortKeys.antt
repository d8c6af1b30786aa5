-- Where the rows of an address stand among those of one owner and side.
use Rattle.std.proofs.Common.{◌≡◌, ℕ, Bool, true, cond, ◌&&◌, List, [], ◌∷◌, length, take, refl, sym, ap, ◌∙◌}
use Rattle.std.specs.Prelude.{nat_eq, bytes_eq, filter}
use Rattle.std.proofs.Common.{eq-eqb}
use Rattle.std.specs.List.{AllByRecursion}
use Rattle.std.specs.Ordering.{nat_cmp, ordering_then, ordering_reverse, is_eq}
use Rattle.std.specs.BTreeMap as tree
use Rattle.std.specs.declared.cmp.Ordering.{Ordering}
use Rattle.std.specs.declared.cmp.Ordering.TheVariants.{Less, Equal, Greater}
use Rattle.std.proofs.lemmas.Cmp.{nat_cmp_total, tied_itself}
use Rattle.mud_base.specs.Addresses.{addr_cmp}
use Rattle.mud_base.specs.declared.addr.Addr.{Addr}
use Rattle.mud_base.specs.declared.addr.Addr.TheVariants.{V4, V6}
use Rattle.mud_base.specs.declared.packet.Direction.{Direction}
use Rattle.acl_rows.specs.contracts.packed.PackedAddrOrd.TheImpl as packed_ord
use Rattle.base_rows.specs.Sortable.{sort_key_cmp, same_sort_key, is_under, rows_under}
use Rattle.base_rows.specs.Addresses.{addr_sort_key}
use Rattle.base_rows.proofs.SortableLaws.{sort_key_cmp_itself, sort_key_cmp_turned, same_sort_key-cmp}
use Rattle.base_rows.proofs.AddressLaws.{addr_cmp-sort_key, same_addr-sort_key}
use Rattle.acl_rows.specs.declared.row.Owner.{Owner}
use Rattle.acl_rows.specs.declared.row.Row.{Row}
use Rattle.mud_base.specs.Directions.{side_number}
use Rattle.acl_rows.specs.SortKeys.{owner_class, owner_number, owner_sort_key, side_sort_key, peer_sort_key, sort_key_at, row_sort_key}
use Rattle.acl_rows.specs.View.{rows_of_side, is_at}
use Rattle.acl_rows.specs.ByAddress.{rows_of_peer, IsRowAt}
use Rattle.acl_rows.proofs.SortKeyOrder.{peer_sort_key-cmp, sort_key_at-cmp}
use Rattle.acl_rows.proofs.Parts.{rows_under-peer}

-- ---- The order of a map's keys is that of the addresses' sort keys

-- how the keys of a map stand to one another
abbrev pub key_cmp : Addr → Addr → Ordering
key_cmp = (packed_ord.ghosts).cmp

derived : (a b : Addr) → key_cmp a b ≡ addr_cmp a b
unfolding addr_cmp
derived (V4 n) (V4 k) = refl
derived (V4 n) (V6 k) = refl
derived (V6 n) (V4 k) = refl
derived (V6 n) (V6 k) = refl

pub key_cmp-sort_key : (a b : Addr) → key_cmp a b ≡ sort_key_cmp (addr_sort_key a) (addr_sort_key b)
key_cmp-sort_key a b = derived a b ∙ addr_cmp-sort_key a b

-- a key is the one that is sought where it has the sort key that is sought
pub key_at : (a b : Addr) → tree.is_at (key_cmp a) b ≡ same_sort_key (addr_sort_key b) (addr_sort_key a)
key_at a b =
    ap is_eq (key_cmp-sort_key a b)
    ∙ turned (sort_key_cmp (addr_sort_key a) (addr_sort_key b))
    ∙ sym (same_sort_key-cmp (addr_sort_key b) (addr_sort_key a) _ (sort_key_cmp_turned (addr_sort_key a) (addr_sort_key b) _ refl))
  where
    turned : (o : Ordering) → is_eq o ≡ is_eq (ordering_reverse o)
    turned Less = refl
    turned Equal = refl
    turned Greater = refl

-- ---- Rows of one owner and side stand as their addresses do

peer_cmp : (owner : Owner) (side : Direction) (a b : Addr) → sort_key_cmp (peer_sort_key owner side a) (peer_sort_key owner side b) ≡ sort_key_cmp (addr_sort_key a) (addr_sort_key b)
peer_cmp owner side a b =
    sym (peer_sort_key-cmp owner owner side side a b)
    ∙ (λ i. ordering_then (ordering_then (sort_key_cmp_itself (owner_sort_key owner) i) (tied_itself nat_cmp_total (side_number side) i)) (addr_cmp a b))
    ∙ addr_cmp-sort_key a b

module _ (owner : Owner) (side : Direction) where
  -- the sort key of a row that is of this owner, side and address
  sort_key_of : (a : Addr) (r : Row) → IsRowAt owner side a r → row_sort_key r ≡ sort_key_at owner side a r.entry
  unfolding row_sort_key
  sort_key_of a r is = λ i. sort_key_at (is.owner_is i) (is.side_is i) (is.addr_is i) r.entry

  pub row_less : (a b : Addr) (r q : Row) → IsRowAt owner side a r → IsRowAt owner side b q → sort_key_cmp (addr_sort_key a) (addr_sort_key b) ≡ Less → sort_key_cmp (row_sort_key r) (row_sort_key q) ≡ Less
  row_less a b r q is other less =
      (λ i. sort_key_cmp (sort_key_of a r is i) (sort_key_of b q other i))
      ∙ sym (sort_key_at-cmp owner owner side side a b r.entry q.entry)
      ∙ ap (λ (o : Ordering). ordering_then o (nat_cmp r.entry q.entry)) (peer_cmp owner side a b ∙ less)

  -- ---- Rows of the owner and side

  -- each is of its own address
  abbrev pub IsOwn : Row → Type 0
  IsOwn r = IsRowAt owner side r.addr r

  three : (k l m : ℕ) → (nat_eq k k && (nat_eq l l && (nat_eq m m && true))) ≡ true
  three k l m = λ i. eq-eqb k k refl i && (eq-eqb l l refl i && (eq-eqb m m refl i && true))

  begins : (a : Addr) (n : ℕ) → bytes_eq (side_sort_key owner side) (take (length (side_sort_key owner side)) (sort_key_at owner side a n)) ≡ true
  unfolding sort_key_at peer_sort_key side_sort_key owner_sort_key
  begins a n = three (owner_class owner) (owner_number owner) (side_number side)

  under_side : (r : Row) → IsOwn r → is_under row_sort_key (side_sort_key owner side) r ≡ true
  under_side r is = ap (λ (p : List ℕ). bytes_eq (side_sort_key owner side) (take (length (side_sort_key owner side)) p)) (sort_key_of r.addr r is) ∙ begins r.addr r.entry

  pub side_all : (rows : List Row) → AllByRecursion IsOwn rows → rows_of_side owner side rows ≡ rows
  unfolding rows_of_side
  side_all [] own = refl
  side_all (r ∷ rs) own = ap (λ (b : Bool). cond b (r ∷ rows_under row_sort_key (side_sort_key owner side) rs) (rows_under row_sort_key (side_sort_key owner side) rs)) (under_side r own.0) ∙ ap (λ (qs : List Row). r ∷ qs) (side_all rs own.1)

  -- so those of an address are those of the peer
  pub peer_rows : (a : Addr) (rows : List Row) → AllByRecursion IsOwn rows → rows_of_peer owner side a rows ≡ filter (is_at a) rows
  unfolding rows_of_peer
  peer_rows a rows own = rows_under-peer owner side a rows ∙ ap (filter (is_at a)) (side_all rows own)

-- a row is at an address where the addresses have one sort key
pub is_at-sort_key : (a : Addr) (r : Row) → is_at a r ≡ same_sort_key (addr_sort_key a) (addr_sort_key r.addr)
unfolding is_at
is_at-sort_key a r = same_addr-sort_key a r.addr
