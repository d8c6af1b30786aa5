-- Two endpoints have one key, in whichever direction a packet goes between them, and no other two endpoints have it.
use Rattle.std.proofs.Common.{◌≡◌, ℕ, Bool, true, false, refl, sym, ap, ◌∙◌, subst}
use Rattle.std.specs.Ordering.{nat_cmp, bool_cmp, ordering_then, is_eq}
use Rattle.std.specs.BTreeMap.{is_at}
use Rattle.std.specs.declared.cmp.Ordering.{Ordering}
use Rattle.std.specs.declared.cmp.Ordering.TheVariants.{Less, Equal, Greater}
use Rattle.std.proofs.lemmas.Cmp.{nat_cmp_total, ranked, tied_itself}
use Rattle.std.specs.Cmp.{both_ways}
use Rattle.mud_base.specs.declared.addr.Addr.{Addr}
use Rattle.mud_base.specs.declared.addr.Addr.TheVariants.{V4, V6}
use Rattle.table_model.specs.History.{Endpoint, is_between}
use Rattle.table_model.specs.declared.segment.Segment.{Segment}
use Rattle.flow_table.specs.Pairs.{Pair, pair_of}
use Rattle.flow_table.specs.Keys.{Key, key_cmp, number_of, is_long, key_in, key_of}
use Rattle.flow_table.proofs.PairLaws.{both_parts, then_equal, between_same, same_between}

-- ---- Keys that compare as equal are one key

pub is_equal : (o : Ordering) → is_eq o ≡ true → o ≡ Equal
is_equal Less e = cc
is_equal Equal e = refl
is_equal Greater e = cc

pub same_number : (n k : ℕ) → nat_cmp n k ≡ Equal → n ≡ k
same_number n k e = ranked n k Equal (sym e)

same_bool : (a b : Bool) → bool_cmp a b ≡ Equal → a ≡ b
same_bool false false e = refl
same_bool false true e = cc
same_bool true false e = cc
same_bool true true e = refl

key_tie : (k l : Key) → key_cmp k l ≡ Equal → k ≡ l
key_tie k l e =
    let near = then_equal (nat_cmp k.near l.near) _ e in
    let first_port = then_equal (nat_cmp k.first_port l.first_port) _ near.1 in
    let second_port = then_equal (nat_cmp k.second_port l.second_port) _ first_port.1 in
    let first_long = then_equal (bool_cmp k.first_long l.first_long) _ second_port.1 in
    let second_long = then_equal (bool_cmp k.second_long l.second_long) _ first_long.1 in
    let first = then_equal (nat_cmp k.first l.first) (nat_cmp k.second l.second) second_long.1 in
    λ i. record {
      near = same_number k.near l.near near.0 i;
      first_port = same_number k.first_port l.first_port first_port.0 i;
      second_port = same_number k.second_port l.second_port second_port.0 i;
      first_long = same_bool k.first_long l.first_long first_long.0 i;
      second_long = same_bool k.second_long l.second_long second_long.0 i;
      first = same_number k.first l.first first.0 i;
      second = same_number k.second l.second first.1 i;
    }

pub number_itself : (n : ℕ) → nat_cmp n n ≡ Equal
number_itself n = tied_itself nat_cmp_total n

bool_itself : (b : Bool) → bool_cmp b b ≡ Equal
bool_itself false = refl
bool_itself true = refl

pub equal_then : (o r : Ordering) → o ≡ Equal → r ≡ Equal → ordering_then o r ≡ Equal
equal_then o r e f = ap (λ o. ordering_then o r) e ∙ f

key_itself : (k : Key) → key_cmp k k ≡ Equal
key_itself k =
    equal_then _ _ (number_itself k.near)
    (equal_then _ _ (number_itself k.first_port)
    (equal_then _ _ (number_itself k.second_port)
    (equal_then _ _ (bool_itself k.first_long)
    (equal_then _ _ (bool_itself k.second_long)
    (equal_then _ _ (number_itself k.first) (number_itself k.second))))))

pub at_same : (k l : Key) → is_at (key_cmp k) l ≡ true → k ≡ l
at_same k l e = key_tie k l (is_equal (key_cmp k l) e)

pub at_itself : (k : Key) → is_at (key_cmp k) k ≡ true
at_itself k = ap is_eq (key_itself k)

pub at_turned : (k l : Key) → is_at (key_cmp l) k ≡ is_at (key_cmp k) l
at_turned k l =
    both_ways (is_at (key_cmp l) k) (is_at (key_cmp k) l)
    (λ e. let P : Key → Type 0 = λ m. is_at (key_cmp k) m ≡ true in subst P (sym (at_same l k e)) (at_itself k))
    (λ e. let P : Key → Type 0 = λ m. is_at (key_cmp l) m ≡ true in subst P (sym (at_same k l e)) (at_itself l))

-- ---- Two endpoints are known by their key

same_addr_from : (a b : Addr) → number_of a ≡ number_of b → is_long a ≡ is_long b → a ≡ b
unfolding number_of is_long
same_addr_from (V4 n) (V4 k) e f = ap (λ m. V4 m) e
same_addr_from (V4 n) (V6 k) e f = cc
same_addr_from (V6 n) (V4 k) e f = cc
same_addr_from (V6 n) (V6 k) e f = ap (λ m. V6 m) e

key_exact : (p q : Pair) → key_in p ≡ key_in q → p ≡ q
unfolding key_in
key_exact p q e =
    both_parts p q
    (both_parts p.0 q.0 (same_addr_from p.0.0 q.0.0 (ap (λ k. k.first) e) (ap (λ k. k.first_long) e)) (ap (λ k. k.first_port) e))
    (both_parts p.1 q.1 (same_addr_from p.1.0 q.1.0 (ap (λ k. k.second) e) (ap (λ k. k.second_long) e)) (ap (λ k. k.second_port) e))

-- a packet is between two endpoints exactly where they have its key
pub between_at : (a b : Endpoint) (p : Segment) → is_between a b p ≡ is_at (key_cmp (key_of p.source p.destination)) (key_of a b)
unfolding key_of
between_at a b p =
    let its : Key = key_in (pair_of p.source p.destination) in
    both_ways (is_between a b p) (is_at (key_cmp its) (key_in (pair_of a b)))
    (λ e. let P : Pair → Type 0 = λ q. is_at (key_cmp its) (key_in q) ≡ true in subst P (between_same a b p e) (at_itself its))
    (λ e. same_between a b p (key_exact (pair_of p.source p.destination) (pair_of a b) (at_same its (key_in (pair_of a b)) e)))
