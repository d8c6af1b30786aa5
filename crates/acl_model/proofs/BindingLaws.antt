-- Bindings of one key and address, and bindings that are the same.
use Rattle.std.proofs.Common.{◌≡◌, ◌==◌, true, List, [], refl, sym, ap, ◌∙◌}
use Rattle.std.specs.Bool.{Decides}
use Rattle.std.proofs.lemmas.Bool.Decides.{Decides-eqb}
use Rattle.std.specs.Cmp.{first_so, second_so}
use Rattle.std.proofs.lemmas.Bool.{and_from}
use Rattle.mud_base.specs.Addresses.{same_addr}
use Rattle.mud_base.specs.declared.addr.Addr.{Addr}
use Rattle.mud_base.specs.declared.addr.Addr.TheVariants.{V4, V6}
use Rattle.acl_model.specs.declared.binding.Binding.{Binding}
use Rattle.acl_model.specs.Keys.{same_key}
use Rattle.acl_model.specs.Changes.{same_spot, same_binding, those_not_in}
use Rattle.acl_model.proofs.KeyLaws.{same_key-Decides}

-- ---- Addresses

pub same_addr-Decides : (a b : Addr) → Decides (same_addr a b) (a ≡ b)
unfolding same_addr
same_addr-Decides (V4 m) (V4 n) = (λ e. ap V4 ((Decides-eqb m n).0 e), λ e. (Decides-eqb m n).1 (cc))
same_addr-Decides (V4 m) (V6 n) = (λ e. cc, λ e. cc)
same_addr-Decides (V6 m) (V4 n) = (λ e. cc, λ e. cc)
same_addr-Decides (V6 m) (V6 n) = (λ e. ap V6 ((Decides-eqb m n).0 e), λ e. (Decides-eqb m n).1 (cc))

pub same_addr_exact : (a b : Addr) → same_addr a b ≡ true → a ≡ b
same_addr_exact a b e = (same_addr-Decides a b).0 e

pub same_addr_itself : (a : Addr) → same_addr a a ≡ true
same_addr_itself a = (same_addr-Decides a a).1 refl

-- ---- One key and address

pub record IsSameSpot (b c : Binding) : Type 0 where
  pub key : b.key ≡ c.key
  pub addr : b.addr ≡ c.addr

pub same_spot_exact : (b c : Binding) → same_spot b c ≡ true → IsSameSpot b c
unfolding same_spot
same_spot_exact b c e = record {
  key = (same_key-Decides b.key c.key).0 (first_so (same_key b.key c.key) (same_addr b.addr c.addr) e);
  addr = same_addr_exact b.addr c.addr (second_so (same_key b.key c.key) (same_addr b.addr c.addr) e);
}

pub same_spot_of : (b c : Binding) → IsSameSpot b c → same_spot b c ≡ true
unfolding same_spot
same_spot_of b c same = and_from (same_key b.key c.key) (same_addr b.addr c.addr) ((same_key-Decides b.key c.key).1 same.key) ((same_addr-Decides b.addr c.addr).1 same.addr)

pub same_spot_itself : (b : Binding) → same_spot b b ≡ true
same_spot_itself b = same_spot_of b b (record { key = refl; addr = refl })

-- two that are of the key and address of a third are of one
pub spot_shared : (b x c : Binding) → same_spot b x ≡ true → same_spot b c ≡ true → same_spot x c ≡ true
spot_shared b x c e f =
    let s : IsSameSpot b x = same_spot_exact b x e in
    let t : IsSameSpot b c = same_spot_exact b c f in
    same_spot_of x c (record { key = sym s.key ∙ t.key; addr = sym s.addr ∙ t.addr })

-- ---- The same binding

pub spot_of_same : (b c : Binding) → same_binding b c ≡ true → same_spot b c ≡ true
unfolding same_binding
spot_of_same b c e = first_so (same_spot b c) (b.until == c.until) e

pub until_of_same : (b c : Binding) → same_binding b c ≡ true → b.until ≡ c.until
unfolding same_binding
until_of_same b c e = (Decides-eqb b.until c.until).0 (second_so (same_spot b c) (b.until == c.until) e)

pub same_binding_itself : (b : Binding) → same_binding b b ≡ true
unfolding same_binding
same_binding_itself b = and_from (same_spot b b) (b.until == b.until) (same_spot_itself b) ((Decides-eqb b.until b.until).1 refl)

pub same_binding_exact : (b c : Binding) → same_binding b c ≡ true → b ≡ c
same_binding_exact b c e =
    let spot : IsSameSpot b c = same_spot_exact b c (spot_of_same b c e) in
    λ i. record { key = spot.key i; addr = spot.addr i; until = until_of_same b c e i }

-- ---- Those that aren't among others

pub those_not_in-none : (others : List Binding) → those_not_in others [] ≡ []
unfolding those_not_in
those_not_in-none others = refl
