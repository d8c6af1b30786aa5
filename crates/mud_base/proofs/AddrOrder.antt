-- The order of addresses is total.
use Rattle.std.proofs.Common.{◌≡◌, refl, sym, ap, ◌∙◌}
use Rattle.std.specs.Cmp.{IsTotalOrder}
use Rattle.std.specs.Ordering.{ordering_reverse}
use Rattle.std.specs.declared.cmp.Ordering.TheVariants.{Less, Equal}
use Rattle.std.proofs.lemmas.Cmp.{nat_cmp_total, ranked, tied_itself}
use Rattle.mud_base.specs.declared.addr.Addr.{Addr}
use Rattle.mud_base.specs.declared.addr.Addr.TheVariants.{V4, V6}
use Rattle.mud_base.specs.Addresses.{addr_cmp}

antisymm : (a b : Addr) → addr_cmp a b ≡ ordering_reverse (addr_cmp b a)
unfolding addr_cmp
antisymm (V4 n) (V4 k) = nat_cmp_total.antisymm n k
antisymm (V4 n) (V6 k) = refl
antisymm (V6 n) (V4 k) = refl
antisymm (V6 n) (V6 k) = nat_cmp_total.antisymm n k

trans : (a b c : Addr) → addr_cmp a b ≡ Less → addr_cmp b c ≡ Less → addr_cmp a c ≡ Less
unfolding addr_cmp
trans (V4 n) (V4 k) (V4 m) h i = nat_cmp_total.trans n k m h i
trans (V4 n) (V4 k) (V6 m) h i = refl
trans (V4 n) (V6 k) (V4 m) h i = cc
trans (V4 n) (V6 k) (V6 m) h i = refl
trans (V6 n) (V4 k) (V4 m) h i = cc
trans (V6 n) (V4 k) (V6 m) h i = cc
trans (V6 n) (V6 k) (V4 m) h i = cc
trans (V6 n) (V6 k) (V6 m) h i = nat_cmp_total.trans n k m h i

congr : (a b c : Addr) → addr_cmp a b ≡ Equal → addr_cmp a c ≡ addr_cmp b c
unfolding addr_cmp
congr (V4 n) (V4 k) (V4 m) h = nat_cmp_total.congr n k m h
congr (V4 n) (V4 k) (V6 m) h = refl
congr (V4 n) (V6 k) c h = cc
congr (V6 n) (V4 k) c h = cc
congr (V6 n) (V6 k) (V4 m) h = refl
congr (V6 n) (V6 k) (V6 m) h = nat_cmp_total.congr n k m h

pub addr_cmp_total : IsTotalOrder addr_cmp
addr_cmp_total = record { antisymm = antisymm; trans = trans; congr = congr }

pub same_from_tie : (a b : Addr) → addr_cmp a b ≡ Equal → a ≡ b
unfolding addr_cmp
same_from_tie (V4 n) (V4 k) h = ap V4 (ranked n k Equal (sym h))
same_from_tie (V4 n) (V6 k) h = cc
same_from_tie (V6 n) (V4 k) h = cc
same_from_tie (V6 n) (V6 k) h = ap V6 (ranked n k Equal (sym h))

pub tie_from_same : (a b : Addr) → a ≡ b → addr_cmp a b ≡ Equal
tie_from_same a b h = ap (λ c. addr_cmp a c) (sym h) ∙ tied_itself addr_cmp_total a
