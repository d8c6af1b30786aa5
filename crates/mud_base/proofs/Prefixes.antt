-- What holds of the address of a prefix.
use Rattle.std.proofs.Common.{◌≡◌, ℕ, ◌-◌, ◌*◌, ◌/◌, ◌^◌, ◌≤◌, refl, ap}
use Rattle.std.proofs.lemmas.Nat.{shl-shr}
use Rattle.mud_base.specs.declared.addr.Addr.{Addr}
use Rattle.mud_base.specs.declared.addr.Addr.TheVariants.{V4, V6}
use Rattle.mud_base.specs.Addresses.{addr_bits, masked, IsPrefix}

addr_bits-masked : (addr : Addr) (len : ℕ) → addr_bits (masked addr len) ≡ addr_bits addr
unfolding addr_bits masked
addr_bits-masked (V4 n) len = refl
addr_bits-masked (V6 n) len = refl

-- what was cleared stays as it is
pub masked-masked : (addr : Addr) (len : ℕ) → masked (masked addr len) len ≡ masked addr len
unfolding masked
masked-masked (V4 n) len = ap (λ front. V4 (front * 2 ^ (32 - len))) (shl-shr (n / 2 ^ (32 - len)) (32 - len))
masked-masked (V6 n) len = ap (λ front. V6 (front * 2 ^ (128 - len))) (shl-shr (n / 2 ^ (128 - len)) (128 - len))

pub IsPrefix-masked : (addr : Addr) (len : ℕ) → len ≤ addr_bits addr → IsPrefix (record { addr = masked addr len; len = len })
IsPrefix-masked addr len within = record {
  within = rw (addr_bits-masked addr len) within;
  cleared = masked-masked addr len;
}
