-- Two addresses, or two prefixes, are one where their sort keys are, and stand to one another as their sort keys do.
use Rattle.std.proofs.Common.{◌≡◌, ℕ, [], ◌∷◌, ◌++◌, refl, sym, length}
use Rattle.std.proofs.Math.Bool.{and-true}
use Rattle.std.specs.Ordering.{nat_cmp, ordering_then}
use Rattle.std.specs.declared.cmp.Ordering.{Ordering}
use Rattle.std.specs.declared.cmp.Ordering.TheVariants.{Less, Equal, Greater}
use Rattle.mud_base.specs.Addresses.{addr_cmp, same_addr}
use Rattle.mud_base.specs.declared.addr.Addr.{Addr}
use Rattle.mud_base.specs.declared.addr.Addr.TheVariants.{V4, V6}
use Rattle.mud_base.specs.declared.prefix.Prefix.{Prefix}
use Rattle.base_rows.specs.Sortable.{sort_key_cmp, same_sort_key}
use Rattle.base_rows.specs.Addresses.{addr_sort_key, prefix_sort_key}
use Rattle.base_rows.proofs.Orders.{then_equal}

-- addresses stand to one another as their sort keys do
pub addr_cmp-sort_key : (a b : Addr) → addr_cmp a b ≡ sort_key_cmp (addr_sort_key a) (addr_sort_key b)
unfolding addr_cmp addr_sort_key
addr_cmp-sort_key (V4 n) (V4 k) = sym (then_equal (nat_cmp n k))
addr_cmp-sort_key (V4 n) (V6 k) = refl
addr_cmp-sort_key (V6 n) (V4 k) = refl
addr_cmp-sort_key (V6 n) (V6 k) = sym (then_equal (nat_cmp n k))

-- what decides first, and then the length
then_length : (o p : Ordering) → ordering_then (ordering_then o Equal) p ≡ ordering_then o (ordering_then p Equal)
then_length Less p = refl
then_length Equal p = sym (then_equal p)
then_length Greater p = refl

by_address : (a b : Addr) (l k : ℕ) → ordering_then (sort_key_cmp (addr_sort_key a) (addr_sort_key b)) (nat_cmp l k) ≡ sort_key_cmp (addr_sort_key a ++ l ∷ []) (addr_sort_key b ++ k ∷ [])
unfolding addr_sort_key
by_address (V4 n) (V4 m) l k = then_length (nat_cmp n m) (nat_cmp l k)
by_address (V4 n) (V6 m) l k = refl
by_address (V6 n) (V4 m) l k = refl
by_address (V6 n) (V6 m) l k = then_length (nat_cmp n m) (nat_cmp l k)

-- prefixes stand to one another as their addresses do, and then as their lengths do
pub prefix_cmp-sort_key : (p q : Prefix) → ordering_then (sort_key_cmp (addr_sort_key p.addr) (addr_sort_key q.addr)) (nat_cmp p.len q.len) ≡ sort_key_cmp (prefix_sort_key p) (prefix_sort_key q)
unfolding prefix_sort_key
prefix_cmp-sort_key p q = by_address p.addr q.addr p.len q.len

-- two addresses are one where their sort keys are
pub same_addr-sort_key : (a b : Addr) → same_addr a b ≡ same_sort_key (addr_sort_key a) (addr_sort_key b)
unfolding same_addr addr_sort_key
same_addr-sort_key (V4 n) (V4 k) = sym (and-true _)
same_addr-sort_key (V4 n) (V6 k) = refl
same_addr-sort_key (V6 n) (V4 k) = refl
same_addr-sort_key (V6 n) (V6 k) = sym (and-true _)

-- the sort key tells which address it is
pub addr_sort_key_exact : (a b : Addr) → addr_sort_key a ≡ addr_sort_key b → a ≡ b
unfolding addr_sort_key
addr_sort_key_exact (V4 n) (V4 k) e = cc
addr_sort_key_exact (V4 n) (V6 k) e = absurd cc
addr_sort_key_exact (V6 n) (V4 k) e = absurd cc
addr_sort_key_exact (V6 n) (V6 k) e = cc

pub ruleset sort_key_rules = (addr_cmp-sort_key, prefix_cmp-sort_key, same_addr-sort_key)

pub length-addr_sort_key : (a : Addr) → length (addr_sort_key a) ≡ 2
unfolding addr_sort_key
length-addr_sort_key (V4 n) = refl
length-addr_sort_key (V6 n) = refl
