-- What a field is, by what was read of it.
use Rattle.std.proofs.Common.{◌≡◌, ℕ, ◌*◌, ◌+◌, ◌^◌, false, List, Some, None, refl}
use Rattle.std.specs.Prelude.{◌==◌}
use Rattle.mud_base.specs.declared.addr.Addr.{Addr}
use Rattle.mud_base.specs.declared.addr.Addr.TheVariants.{V4, V6}
use Rattle.item_codec.specs.Records.{number_in}
use Rattle.table_model.specs.Binds.{prefix_with}
use Rattle.table_model.specs.ItemFields.{v4_in, v6_in, address_in, expiring_in, network_in}

module _ (octets : List ℕ) where
  pub v4_none : number_in 4 octets ≡ None → v4_in octets ≡ None
  unfolding v4_in
  v4_none e = rw e refl

  pub v4_some : (n : ℕ) (rest : List ℕ) → number_in 4 octets ≡ Some (n, rest) → v4_in octets ≡ Some (V4 n, rest)
  unfolding v4_in
  v4_some n rest e = rw e refl

  pub v6_none : number_in 8 octets ≡ None → v6_in octets ≡ None
  unfolding v6_in
  v6_none e = rw e refl

  pub v6_half : (high : ℕ) (middle : List ℕ) → number_in 8 octets ≡ Some (high, middle) → number_in 8 middle ≡ None → v6_in octets ≡ None
  unfolding v6_in
  v6_half high middle e f = rw (e, f) refl

  pub v6_some : (high low : ℕ) (middle rest : List ℕ) → number_in 8 octets ≡ Some (high, middle) → number_in 8 middle ≡ Some (low, rest) → v6_in octets ≡ Some (V6 (high * 2 ^ 64 + low), rest)
  unfolding v6_in
  v6_some high low middle rest e f = rw (e, f) refl

  pub address_none : number_in 1 octets ≡ None → address_in octets ≡ None
  unfolding address_in
  address_none e = rw e refl

  pub address_four : (n : ℕ) (rest : List ℕ) → number_in 1 octets ≡ Some (n, rest) → n ≡ 4 → address_in octets ≡ v4_in rest
  unfolding address_in
  address_four n rest e f = rw (e, f) refl

  pub address_six : (n : ℕ) (rest : List ℕ) → number_in 1 octets ≡ Some (n, rest) → n ≡ 6 → address_in octets ≡ v6_in rest
  unfolding address_in
  address_six n rest e f = rw (e, f) refl

  pub address_other : (n : ℕ) (rest : List ℕ) → number_in 1 octets ≡ Some (n, rest) → (n == 4) ≡ false → (n == 6) ≡ false → address_in octets ≡ None
  unfolding address_in
  address_other n rest e f g = rw (e, f, g) refl

  pub expiring_none : address_in octets ≡ None → expiring_in octets ≡ None
  unfolding expiring_in
  expiring_none e = rw e refl

  pub expiring_half : (a : Addr) (middle : List ℕ) → address_in octets ≡ Some (a, middle) → number_in 8 middle ≡ None → expiring_in octets ≡ None
  unfolding expiring_in
  expiring_half a middle e f = rw (e, f) refl

  pub expiring_some : (a : Addr) (until : ℕ) (middle rest : List ℕ) → address_in octets ≡ Some (a, middle) → number_in 8 middle ≡ Some (until, rest) → expiring_in octets ≡ Some ((a, until), rest)
  unfolding expiring_in
  expiring_some a until middle rest e f = rw (e, f) refl

  pub network_none : address_in octets ≡ None → network_in octets ≡ None
  unfolding network_in
  network_none e = rw e refl

  pub network_half : (a : Addr) (middle : List ℕ) → address_in octets ≡ Some (a, middle) → number_in 1 middle ≡ None → network_in octets ≡ None
  unfolding network_in
  network_half a middle e f = rw (e, f) refl

  pub network_some : (a : Addr) (len : ℕ) (middle rest : List ℕ) → address_in octets ≡ Some (a, middle) → number_in 1 middle ≡ Some (len, rest) → network_in octets ≡ Some (prefix_with a len, rest)
  unfolding network_in
  network_some a len middle rest e f = rw (e, f) refl

pub ruleset v4_rules = (v4_none, v4_some)

pub ruleset v6_rules = (v6_none, v6_half, v6_some)

pub ruleset address_rules = (address_none, address_four, address_six, address_other)

pub ruleset expiring_rules = (expiring_none, expiring_half, expiring_some)

pub ruleset network_rules = (network_none, network_half, network_some)
