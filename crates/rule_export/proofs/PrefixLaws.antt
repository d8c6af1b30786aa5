-- Prefixes that hold one another.
use Rattle.std.proofs.Common.{◌≡◌, ℕ, ◌+◌, ◌-◌, ◌*◌, ◌/◌, ◌^◌, ◌≤◌, ◌<◌, ◌⊎◌, inl, inr, Bool, true, false, refl, sym, ap, subst, ◌∙◌, arith}
use Rattle.std.specs.Prelude.{nat_le, leb}
use Rattle.std.proofs.Math.Nat.{div-div-eq-div-mul}
use Rattle.std.proofs.lemmas.Nat.{pow-add}
use Rattle.std.proofs.lemmas.Bool.{false≢true, eqb-true, eq-eqb, leb-true, le-leb}
use Rattle.std.proofs.lemmas.Bool.Decides.{leb_tells}
use Rattle.base_rows.proofs.ListTests.{left_of, right_of, both}
use Rattle.mud_base.specs.Addresses.{same_front, prefix_holds}
use Rattle.mud_base.specs.declared.addr.Addr.{Addr}
use Rattle.mud_base.specs.declared.addr.Addr.TheVariants.{V4, V6}
use Rattle.mud_base.specs.declared.prefix.Prefix.{Prefix}
use Rattle.rule_export.specs.Networks.{holds_all}

-- ---- Fronts

coarser : (n k u v : ℕ) → n / u ≡ k / u → n / (u * v) ≡ k / (u * v)
coarser n k u v e = sym (div-div-eq-div-mul n u v) ∙ ap (λ x. x / v) e ∙ div-div-eq-div-mul k u v

-- numbers whose greater part is the same have the same part of it
fewer_bits : (w l m n k : ℕ) → l ≤ m → n / 2 ^ (w - m) ≡ k / 2 ^ (w - m) → n / 2 ^ (w - l) ≡ k / 2 ^ (w - l)
fewer_bits w l m n k le e =
    let split : 2 ^ (w - l) ≡ 2 ^ (w - m) * 2 ^ ((w - l) - (w - m)) = ap (λ j. 2 ^ j) {x = w - l} {y = (w - m) + ((w - l) - (w - m))} (omega arith) ∙ pow-add 2 (w - m) ((w - l) - (w - m)) in
    subst (λ d. n / d ≡ k / d) (sym split) (coarser n k (2 ^ (w - m)) (2 ^ ((w - l) - (w - m))) e)

pub front_fewer : (l m : ℕ) (a b : Addr) → l ≤ m → same_front m a b ≡ true → same_front l a b ≡ true
front_fewer l m (V4 n) (V4 k) le e = eq-eqb _ _ (fewer_bits 32 l m n k le (eqb-true _ _ e))
front_fewer l m (V4 n) (V6 k) le e = e
front_fewer l m (V6 n) (V4 k) le e = e
front_fewer l m (V6 n) (V6 k) le e = eq-eqb _ _ (fewer_bits 128 l m n k le (eqb-true _ _ e))

pub front_turned : (l : ℕ) (a b : Addr) → same_front l a b ≡ true → same_front l b a ≡ true
front_turned l (V4 n) (V4 k) e = eq-eqb _ _ (sym (eqb-true _ _ e))
front_turned l (V4 n) (V6 k) e = e
front_turned l (V6 n) (V4 k) e = e
front_turned l (V6 n) (V6 k) e = eq-eqb _ _ (sym (eqb-true _ _ e))

pub front_joined : (l : ℕ) (a b c : Addr) → same_front l a b ≡ true → same_front l b c ≡ true → same_front l a c ≡ true
front_joined l (V4 n) (V4 k) (V4 j) e f = eq-eqb _ _ (eqb-true _ _ e ∙ eqb-true _ _ f)
front_joined l (V4 n) (V4 k) (V6 j) e f = f
front_joined l (V4 n) (V6 k) c e f = absurd (false≢true e)
front_joined l (V6 n) (V4 k) c e f = absurd (false≢true e)
front_joined l (V6 n) (V6 k) (V4 j) e f = f
front_joined l (V6 n) (V6 k) (V6 j) e f = eq-eqb _ _ (eqb-true _ _ e ∙ eqb-true _ _ f)

-- ---- Prefixes

pub record Holds (p q : Prefix) : Type 0 where
  pub fewer : p.len ≤ q.len
  pub alike : same_front p.len p.addr q.addr ≡ true

pub held : (p q : Prefix) → holds_all p q ≡ true → Holds p q
unfolding holds_all prefix_holds
held p q e = record {
  fewer = leb-true p.len q.len (left_of (nat_le p.len q.len) (same_front p.len p.addr q.addr) e);
  alike = right_of (nat_le p.len q.len) (same_front p.len p.addr q.addr) e;
}

pub holding : (p q : Prefix) → Holds p q → holds_all p q ≡ true
unfolding holds_all prefix_holds
holding p q h = both (nat_le p.len q.len) (same_front p.len p.addr q.addr) (le-leb p.len q.len h.fewer) h.alike

-- ---- A test that a prefix passes where one inside it does, and that no two prefixes pass which lie apart

pub record IsOfPrefixes (h : Prefix → Bool) : Type 0 where
  pub wider : (p q : Prefix) → holds_all p q ≡ true → h q ≡ true → h p ≡ true
  pub nested : (p q : Prefix) → h p ≡ true → h q ≡ true → (holds_all p q ≡ true) ⊎ (holds_all q p ≡ true)

by_length : (p q : Prefix) (l m : ℕ) → l ≡ p.len → m ≡ q.len → ((leb l m ≡ true) × (l ≤ m)) ⊎ ((leb l m ≡ false) × (m < l))
    → (l ≤ m → same_front l p.addr q.addr ≡ true) → (m < l → same_front m q.addr p.addr ≡ true) → (holds_all p q ≡ true) ⊎ (holds_all q p ≡ true)
by_length p q l m is is' (inl le) first second =
    let less : l ≤ m = le.1 in
    inl (holding p q (record { fewer = rw (sym is, sym is') less; alike = subst (λ x. same_front x p.addr q.addr ≡ true) is (first le.1) }))
by_length p q l m is is' (inr gt) first second =
    let less : m < l = gt.1 in
    let le : m ≤ l = omega arith in
    inr (holding q p (record { fewer = rw (sym is, sym is') le; alike = subst (λ x. same_front x q.addr p.addr ≡ true) is' (second gt.1) }))

-- an address in the prefix
pub of_address : (a : Addr) → IsOfPrefixes (λ p. prefix_holds p a)
unfolding prefix_holds
of_address a = record {
  wider = λ p q e f. let h : Holds p q = held p q e in front_joined p.len p.addr q.addr a h.alike (front_fewer p.len q.len q.addr a h.fewer f);
  nested = λ p q e f. by_length p q p.len q.len refl refl (leb_tells p.len q.len)
      (λ le. front_joined p.len p.addr a q.addr e (front_turned p.len q.addr a (front_fewer p.len q.len q.addr a le f)))
      (λ lt. let le : q.len ≤ p.len = omega arith in front_joined q.len q.addr a p.addr f (front_turned q.len p.addr a (front_fewer q.len p.len p.addr a le e)));
}
