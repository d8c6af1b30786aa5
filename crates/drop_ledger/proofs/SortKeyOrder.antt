-- How the sort keys of rows stand to one another, field by field.
use Rattle.std.proofs.Common.{◌≡◌, ℕ, zero, suc, ◌+◌, min, List, [], ◌∷◌, ◌++◌, length, take, Option, refl, sym, ap, ◌∙◌, arith, length-append, length-take}
use Rattle.std.specs.Ordering.{nat_cmp, ordering_then}
use Rattle.mud_base.specs.Addresses.{addr_cmp}
use Rattle.mud_base.specs.declared.addr.Addr.{Addr}
use Rattle.mud_base.specs.declared.addr.Mac.{Mac}
use Rattle.mud_base.specs.declared.packet.Direction.{Direction}
use Rattle.acl_model.specs.declared.ruling.Ruling.{Ruling}
use Rattle.base_rows.specs.Sortable.{sort_key_cmp, prefix_cmp}
use Rattle.base_rows.specs.Addresses.{addr_sort_key}
use Rattle.base_rows.proofs.AddressLaws.{addr_cmp-sort_key, length-addr_sort_key}
use Rattle.base_rows.proofs.Orders.{then_equal, then_assoc, sort_key_cmp-front, prefix_cmp-front, one_number}
use Rattle.mud_base.specs.Directions.{side_number}
use Rattle.drop_ledger.specs.SortKeys.{six, thing_sort_key, ruling_class, entry_number, ruling_sort_key, port_number, peer_sort_key}

-- ---- One order after the other

two_numbers : (m n k l : ℕ) → sort_key_cmp (m ∷ n ∷ []) (k ∷ l ∷ []) ≡ ordering_then (nat_cmp m k) (nat_cmp n l)
two_numbers m n k l = ap (ordering_then (nat_cmp m k)) (then_equal (nat_cmp n l))

-- ---- Lengths

pub length-six : (octets : List ℕ) → length (six octets) ≡ 6
unfolding six
length-six octets = length-take 6 (octets ++ 0 ∷ 0 ∷ 0 ∷ 0 ∷ 0 ∷ 0 ∷ []) ∙ least (length octets) (length (octets ++ 0 ∷ 0 ∷ 0 ∷ 0 ∷ 0 ∷ 0 ∷ [])) (length-append octets (0 ∷ 0 ∷ 0 ∷ 0 ∷ 0 ∷ 0 ∷ []))
  where
    least : (n m : ℕ) → m ≡ n + 6 → min 6 m ≡ 6
    least n m is = omega arith

pub front : (n : ℕ) (xs ys : List ℕ) → length xs ≡ n → take n (xs ++ ys) ≡ xs
front zero [] ys is = refl
front zero (x ∷ xs) ys is = absurd (omega (arith, is))
front (suc n) [] ys is = absurd (omega (arith, is))
front (suc n) (x ∷ xs) ys is = ap (λ l. x ∷ l) (front n xs ys (omega (arith, is)))

-- six octets are all of a list that has just as many
pub six_all : (octets : List ℕ) → length octets ≡ 6 → six octets ≡ octets
unfolding six
six_all octets all = front 6 octets (0 ∷ 0 ∷ 0 ∷ 0 ∷ 0 ∷ 0 ∷ []) all

pub length-thing_sort_key : (mac : Mac) (side : Direction) → length (thing_sort_key mac side) ≡ 7
unfolding thing_sort_key
length-thing_sort_key mac side = length-append (six mac.0) (side_number side ∷ []) ∙ ap (λ n. n + 1) (length-six mac.0)

pub same_length : (m n : Mac) (s t : Direction) → length (thing_sort_key m s) ≡ length (thing_sort_key n t)
same_length m n s t = length-thing_sort_key m s ∙ sym (length-thing_sort_key n t)

-- ---- Parts of sort keys

pub thing_sort_key-cmp : (m n : Mac) (s t : Direction) → ordering_then (sort_key_cmp (six m.0) (six n.0)) (nat_cmp (side_number s) (side_number t)) ≡ sort_key_cmp (thing_sort_key m s) (thing_sort_key n t)
unfolding thing_sort_key
thing_sort_key-cmp m n s t =
    ap (ordering_then (sort_key_cmp (six m.0) (six n.0))) (sym (one_number (side_number s) (side_number t)))
    ∙ sym (sort_key_cmp-front (six m.0) (six n.0) (side_number s ∷ []) (side_number t ∷ []) (length-six m.0 ∙ sym (length-six n.0)))

pub ruling_sort_key-cmp : (r q : Ruling) → ordering_then (nat_cmp (ruling_class r) (ruling_class q)) (nat_cmp (entry_number r) (entry_number q)) ≡ sort_key_cmp (ruling_sort_key r) (ruling_sort_key q)
unfolding ruling_sort_key
ruling_sort_key-cmp r q = sym (two_numbers (ruling_class r) (entry_number r) (ruling_class q) (entry_number q))

pub peer_sort_key-cmp : (a b : Addr) (k l : ℕ) (p q : Option ℕ) → ordering_then (ordering_then (addr_cmp a b) (nat_cmp k l)) (nat_cmp (port_number p) (port_number q)) ≡ sort_key_cmp (peer_sort_key a k p) (peer_sort_key b l q)
unfolding peer_sort_key
peer_sort_key-cmp a b k l p q =
    then_assoc (addr_cmp a b) (nat_cmp k l) (nat_cmp (port_number p) (port_number q))
    ∙ (λ i. ordering_then (addr_cmp-sort_key a b i) (sym (two_numbers k (port_number p) l (port_number q)) i))
    ∙ sym (sort_key_cmp-front (addr_sort_key a) (addr_sort_key b) (k ∷ port_number p ∷ []) (l ∷ port_number q ∷ []) (length-addr_sort_key a ∙ sym (length-addr_sort_key b)))

pub ruleset sort_key_rules = (thing_sort_key-cmp, ruling_sort_key-cmp, peer_sort_key-cmp)

-- ---- Sort keys of rows

pub behind_thing : (m n : Mac) (s t : Direction) (us vs : List ℕ) → ordering_then (sort_key_cmp (thing_sort_key m s) (thing_sort_key n t)) (sort_key_cmp us vs) ≡ sort_key_cmp (thing_sort_key m s ++ us) (thing_sort_key n t ++ vs)
behind_thing m n s t us vs = sym (sort_key_cmp-front (thing_sort_key m s) (thing_sort_key n t) us vs (same_length m n s t))

pub thing_begins : (m n : Mac) (s t : Direction) (vs : List ℕ) → sort_key_cmp (thing_sort_key m s) (thing_sort_key n t) ≡ prefix_cmp (thing_sort_key m s) (thing_sort_key n t ++ vs)
thing_begins m n s t vs = sym (prefix_cmp-front (thing_sort_key m s) (thing_sort_key n t) vs (same_length m n s t))

pub ruleset row_rules = (behind_thing, thing_begins)
