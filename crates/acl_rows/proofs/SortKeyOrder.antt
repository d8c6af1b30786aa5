-- How the sort keys of rows stand to one another, field by field.
use Rattle.std.proofs.Common.{◌≡◌, ℕ, [], ◌∷◌, length, refl, sym, ap, ◌∙◌, arith}
use Rattle.std.specs.Ordering.{nat_cmp, ordering_then}
use Rattle.std.specs.declared.cmp.Ordering.{Ordering}
use Rattle.mud_base.specs.Addresses.{addr_cmp}
use Rattle.mud_base.specs.declared.addr.Addr.{Addr}
use Rattle.mud_base.specs.declared.packet.Direction.{Direction}
use Rattle.base_rows.specs.Sortable.{sort_key_cmp, prefix_cmp}
use Rattle.base_rows.specs.Addresses.{addr_sort_key}
use Rattle.base_rows.proofs.AddressLaws.{addr_cmp-sort_key, length-addr_sort_key}
use Rattle.base_rows.proofs.Orders.{then_equal, sort_key_cmp-front, prefix_cmp-front, one_number}
use Rattle.acl_rows.specs.declared.row.Owner.{Owner}
use Rattle.mud_base.specs.Directions.{side_number}
use Rattle.acl_rows.specs.SortKeys.{owner_sort_key, side_sort_key, peer_sort_key, sort_key_at}

-- ---- Beginnings of rows' sort keys

length-peer_sort_key : (owner : Owner) (side : Direction) (a : Addr) → length (peer_sort_key owner side a) ≡ 5
unfolding peer_sort_key side_sort_key owner_sort_key
length-peer_sort_key owner side a = omega (arith, length-addr_sort_key a)

same_length : (o p : Owner) (s t : Direction) (a b : Addr) → length (peer_sort_key o s a) ≡ length (peer_sort_key p t b)
same_length o p s t a b = length-peer_sort_key o s a ∙ sym (length-peer_sort_key p t b)

side_cmp : (o p : Owner) (s t : Direction) → ordering_then (sort_key_cmp (owner_sort_key o) (owner_sort_key p)) (nat_cmp (side_number s) (side_number t)) ≡ sort_key_cmp (side_sort_key o s) (side_sort_key p t)
unfolding side_sort_key owner_sort_key
side_cmp o p s t =
    ap (ordering_then (sort_key_cmp (owner_sort_key o) (owner_sort_key p))) (sym (one_number (side_number s) (side_number t)))
    ∙ sym (sort_key_cmp-front (owner_sort_key o) (owner_sort_key p) (side_number s ∷ []) (side_number t ∷ []) refl)

pub peer_sort_key-cmp : (o p : Owner) (s t : Direction) (a b : Addr)
    → ordering_then (ordering_then (sort_key_cmp (owner_sort_key o) (owner_sort_key p)) (nat_cmp (side_number s) (side_number t))) (addr_cmp a b) ≡ sort_key_cmp (peer_sort_key o s a) (peer_sort_key p t b)
unfolding peer_sort_key side_sort_key owner_sort_key
peer_sort_key-cmp o p s t a b =
    (λ i. ordering_then (side_cmp o p s t i) (addr_cmp-sort_key a b i))
    ∙ sym (sort_key_cmp-front (side_sort_key o s) (side_sort_key p t) (addr_sort_key a) (addr_sort_key b) refl)

-- the same, where it is known how owner and side stand to the others
pub peer_sort_key-by : (front : Ordering) (o p : Owner) (s t : Direction) (a b : Addr)
    → front ≡ ordering_then (sort_key_cmp (owner_sort_key o) (owner_sort_key p)) (nat_cmp (side_number s) (side_number t))
    → ordering_then front (addr_cmp a b) ≡ sort_key_cmp (peer_sort_key o s a) (peer_sort_key p t b)
peer_sort_key-by front o p s t a b is = ap (λ x. ordering_then x (addr_cmp a b)) is ∙ peer_sort_key-cmp o p s t a b

-- ---- Rows' sort keys

pub sort_key_at-cmp : (o p : Owner) (s t : Direction) (a b : Addr) (m n : ℕ) → ordering_then (sort_key_cmp (peer_sort_key o s a) (peer_sort_key p t b)) (nat_cmp m n) ≡ sort_key_cmp (sort_key_at o s a m) (sort_key_at p t b n)
unfolding sort_key_at
sort_key_at-cmp o p s t a b m n =
    ap (ordering_then (sort_key_cmp (peer_sort_key o s a) (peer_sort_key p t b))) (sym (one_number m n))
    ∙ sym (sort_key_cmp-front (peer_sort_key o s a) (peer_sort_key p t b) (m ∷ []) (n ∷ []) (same_length o p s t a b))

pub peer_sort_key-prefix : (o p : Owner) (s t : Direction) (a b : Addr) (n : ℕ) → sort_key_cmp (peer_sort_key o s a) (peer_sort_key p t b) ≡ prefix_cmp (peer_sort_key o s a) (sort_key_at p t b n)
unfolding sort_key_at
peer_sort_key-prefix o p s t a b n = sym (prefix_cmp-front (peer_sort_key o s a) (peer_sort_key p t b) (n ∷ []) (same_length o p s t a b))

pub ruleset then_rules = (then_equal)

pub ruleset sort_key_rules = (sort_key_at-cmp, peer_sort_key-prefix)
