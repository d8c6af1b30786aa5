-- Two endpoints have one order, in whichever direction a packet goes between them.
use Rattle.std.proofs.Common.{◌≡◌, ℕ, Bool, true, false, ◌&&◌, ◌||◌, ◌==◌, ◌⊎◌, inl, inr, refl, sym, ap, ◌∙◌, eq-eqb, rules}
use Rattle.std.specs.Ordering.{nat_cmp, ordering_then, ordering_reverse, match_ordering}
use Rattle.std.specs.declared.cmp.Ordering.{Ordering}
use Rattle.std.specs.declared.cmp.Ordering.TheVariants.{Less, Equal, Greater}
use Rattle.std.proofs.lemmas.Cmp.{nat_cmp_total, ranked}
use Rattle.std.proofs.lemmas.Bool.{and_parts, or_cases}
use Rattle.mud_base.specs.Addresses.{addr_cmp, same_addr}
use Rattle.mud_base.specs.declared.addr.Addr.{Addr}
use Rattle.mud_base.specs.declared.addr.Addr.TheVariants.{V4, V6}
use Rattle.mud_base.specs.contracts.addr.AddrOrd.TheImpl as addr_ord
use Rattle.mud_base.proofs.AddrOrder.{addr_cmp_total, same_from_tie}
use Rattle.table_model.specs.History.{Endpoint, same_endpoint, is_between}
use Rattle.table_model.specs.declared.segment.Segment.{Segment}
use Rattle.table_model.proofs.RowSets.{same_addr_exact, same_addr_itself}
use Rattle.flow_table.specs.Pairs.{Pair, endpoint_cmp, pair_of}

derived : (a b : Addr) → (addr_ord.ghosts).cmp a b ≡ addr_cmp a b
unfolding addr_cmp
derived (V4 n) (V4 k) = refl
derived (V4 n) (V6 k) = refl
derived (V6 n) (V4 k) = refl
derived (V6 n) (V6 k) = refl

endpoint_by : (a b : Endpoint) → endpoint_cmp a b ≡ ordering_then (addr_cmp a.0 b.0) (nat_cmp a.1 b.1)
endpoint_by a b = ap (λ o. ordering_then o (nat_cmp a.1 b.1)) (derived a.0 b.0)

pub then_equal : (o r : Ordering) → ordering_then o r ≡ Equal → (o ≡ Equal) × (r ≡ Equal)
then_equal Less r e = cc
then_equal Equal r e = (refl, e)
then_equal Greater r e = cc

then_reverse : (o r p q : Ordering) → o ≡ ordering_reverse p → r ≡ ordering_reverse q → ordering_then o r ≡ ordering_reverse (ordering_then p q)
then_reverse o r Less q e f = rw e refl
then_reverse o r Equal q e f = rw (e, f) refl
then_reverse o r Greater q e f = rw e refl

pub both_parts : {A B : Type 0} (a b : A × B) → a.0 ≡ b.0 → a.1 ≡ b.1 → a ≡ b
both_parts a b e f = λ i. (e i, f i)

-- two endpoints as they stand
abbrev in_order : Endpoint → Endpoint → Pair
in_order a b = (a, b)

endpoint_tie : (a b : Endpoint) → endpoint_cmp a b ≡ Equal → a ≡ b
endpoint_tie a b e =
    let both = then_equal (addr_cmp a.0 b.0) (nat_cmp a.1 b.1) (sym (endpoint_by a b) ∙ e) in
    both_parts a b (same_from_tie a.0 b.0 both.0) (ranked a.1 b.1 Equal (sym both.1))

endpoint_reverse : (a b : Endpoint) → endpoint_cmp a b ≡ ordering_reverse (endpoint_cmp b a)
endpoint_reverse a b =
    endpoint_by a b ∙ then_reverse (addr_cmp a.0 b.0) (nat_cmp a.1 b.1) (addr_cmp b.0 a.0) (nat_cmp b.1 a.1) (addr_cmp_total.antisymm a.0 b.0) (nat_cmp_total.antisymm a.1 b.1) ∙ ap ordering_reverse (sym (endpoint_by b a))

-- ---- Two endpoints in their order

pair_either : (a b : Endpoint) → (pair_of a b ≡ (in_order a b)) ⊎ (pair_of a b ≡ (in_order b a))
unfolding pair_of
pair_either a b = by (endpoint_cmp a b)
  where
    by : (o : Ordering) → (match_ordering o (in_order a b) (in_order a b) (in_order b a) ≡ (in_order a b)) ⊎ (match_ordering o (in_order a b) (in_order a b) (in_order b a) ≡ (in_order b a))
    by Less = inl refl
    by Equal = inl refl
    by Greater = inr refl

pub pair_turned : (a b : Endpoint) → pair_of a b ≡ pair_of b a
unfolding pair_of
pair_turned a b = by (endpoint_cmp a b) (endpoint_cmp b a) (endpoint_reverse a b) (endpoint_tie a b)
  where
    by : (o p : Ordering) → o ≡ ordering_reverse p → (o ≡ Equal → a ≡ b) → match_ordering o (in_order a b) (in_order a b) (in_order b a) ≡ match_ordering p (in_order b a) (in_order b a) (in_order a b)
    by Less Less e f = cc
    by Less Equal e f = cc
    by Less Greater e f = refl
    by Equal Less e f = cc
    by Equal Equal e f = let h : a ≡ b = f refl in cc
    by Equal Greater e f = cc
    by Greater Less e f = refl
    by Greater Equal e f = cc
    by Greater Greater e f = cc

same_endpoint_is : (a b : Endpoint) → same_endpoint a b ≡ true → a ≡ b
unfolding same_endpoint
same_endpoint_is a b e =
    let both = and_parts (same_addr a.0 b.0) (a.1 == b.1) e in
    both_parts a b (same_addr_exact a.0 b.0 both.0) (number a.1 b.1 both.1)
  where
    number : (n k : ℕ) → (n == k) ≡ true → n ≡ k
    number n k e = search rules

endpoint_same : (a b : Endpoint) → a ≡ b → same_endpoint a b ≡ true
unfolding same_endpoint
endpoint_same a b e = ap (λ c. same_addr a.0 c.0 && a.1 == c.1) (sym e) ∙ ap (λ c. c && a.1 == a.1) (same_addr_itself a.0) ∙ eq-eqb a.1 a.1 refl

pub between_same : (a b : Endpoint) (p : Segment) → is_between a b p ≡ true → pair_of p.source p.destination ≡ pair_of a b
unfolding is_between
between_same a b p e = by (or_cases (same_endpoint p.source a && same_endpoint p.destination b) (same_endpoint p.source b && same_endpoint p.destination a) e)
  where
    by : ((same_endpoint p.source a && same_endpoint p.destination b) ≡ true) ⊎ ((same_endpoint p.source b && same_endpoint p.destination a) ≡ true) → pair_of p.source p.destination ≡ pair_of a b
    by (inl h) = let both = and_parts (same_endpoint p.source a) (same_endpoint p.destination b) h in let s : p.source ≡ a = same_endpoint_is p.source a both.0 in let d : p.destination ≡ b = same_endpoint_is p.destination b both.1 in cc
    by (inr h) = let both = and_parts (same_endpoint p.source b) (same_endpoint p.destination a) h in let s : p.source ≡ b = same_endpoint_is p.source b both.0 in let d : p.destination ≡ a = same_endpoint_is p.destination a both.1 in let t : pair_of b a ≡ pair_of a b = pair_turned b a in cc

straight : (a b : Endpoint) (p : Segment) → p.source ≡ a → p.destination ≡ b → is_between a b p ≡ true
unfolding is_between
straight a b p s d = ap (λ c. (c && same_endpoint p.destination b) || (same_endpoint p.source b && same_endpoint p.destination a)) (endpoint_same p.source a s) ∙ ap (λ c. c || (same_endpoint p.source b && same_endpoint p.destination a)) (endpoint_same p.destination b d)

turned : (a b : Endpoint) (p : Segment) → p.source ≡ b → p.destination ≡ a → is_between a b p ≡ true
unfolding is_between
turned a b p s d = ap (λ c. (same_endpoint p.source a && same_endpoint p.destination b) || (c && same_endpoint p.destination a)) (endpoint_same p.source b s) ∙ ap (λ c. (same_endpoint p.source a && same_endpoint p.destination b) || c) (endpoint_same p.destination a d) ∙ or_last (same_endpoint p.source a && same_endpoint p.destination b)
  where
    or_last : (c : Bool) → (c || true) ≡ true
    or_last true = refl
    or_last false = refl

pub same_between : (a b : Endpoint) (p : Segment) → pair_of p.source p.destination ≡ pair_of a b → is_between a b p ≡ true
same_between a b p e = by (pair_either p.source p.destination) (pair_either a b)
  where
    by : (pair_of p.source p.destination ≡ in_order p.source p.destination) ⊎ (pair_of p.source p.destination ≡ in_order p.destination p.source) → (pair_of a b ≡ in_order a b) ⊎ (pair_of a b ≡ in_order b a) → is_between a b p ≡ true
    by (inl f) (inl g) = let h : in_order p.source p.destination ≡ in_order a b = sym f ∙ e ∙ g in straight a b p (ap (λ q. q.0) h) (ap (λ q. q.1) h)
    by (inl f) (inr g) = let h : in_order p.source p.destination ≡ in_order b a = sym f ∙ e ∙ g in turned a b p (ap (λ q. q.0) h) (ap (λ q. q.1) h)
    by (inr f) (inl g) = let h : in_order p.destination p.source ≡ in_order a b = sym f ∙ e ∙ g in turned a b p (ap (λ q. q.1) h) (ap (λ q. q.0) h)
    by (inr f) (inr g) = let h : in_order p.destination p.source ≡ in_order b a = sym f ∙ e ∙ g in straight a b p (ap (λ q. q.1) h) (ap (λ q. q.0) h)
