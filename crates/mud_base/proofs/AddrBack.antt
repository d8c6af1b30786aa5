-- The text of an address is one of its texts, and has no slash.
use Rattle.std.proofs.Common.{◌≡◌, ℕ, ◌^◌, ◌<◌, length, get_or, false, refl, sym, ap, ◌∙◌, arith}
use Rattle.std.specs.Int.{w128, to_be_bytes, from_be_bytes}
use Rattle.std.proofs.lemmas.Nat.{from_be_bytes-to_be_bytes_4}
use Rattle.std.proofs.lemmas.Bool.Decides.{nat_tests}
use Rattle.std.proofs.NetLemmas.Texts.{IsDotted-ipv4_text, IsColonHex-hex_groups_text}
use Rattle.std.proofs.NetLemmas.Alphabet.{IsDigitOrDot, IsHexOrColon, All-ipv4_text, All-hex_groups_text}
use Rattle.mud_base.specs.declared.addr.Addr.{Addr}
use Rattle.mud_base.specs.declared.addr.Addr.TheVariants.{V4, V6}
use Rattle.mud_base.specs.Texts.{addr_text, octets_v4}
use Rattle.mud_base.specs.Reading.{IsAddrText, is_slash}
use Rattle.mud_base.proofs.BeBytes.{bytes_high_first_lt, from_be_bytes-to_be_bytes_16, octets_of-segments_of, segments_of_lt}
use Rattle.mud_base.proofs.Parts.{groups_v6}

-- the number of an address fits its version
abbrev pub FitsAddr : Addr → Type 0
FitsAddr (V4 n) = n < 2 ^ 32
FitsAddr (V6 n) = n < 2 ^ 128

pub IsAddrText-addr_text : (addr : Addr) → FitsAddr addr → IsAddrText (addr_text addr) addr
unfolding addr_text octets_v4
IsAddrText-addr_text (V4 n) fits = (
  octets_v4 n,
  IsDotted-ipv4_text (octets_v4 n) refl (bytes_high_first_lt 4 n),
  ap V4 (sym (from_be_bytes-to_be_bytes_4 n fits)),
)
IsAddrText-addr_text (V6 n) fits = (
  groups_v6 n,
  IsColonHex-hex_groups_text (groups_v6 n) refl (segments_of_lt (to_be_bytes w128 n) (bytes_high_first_lt 16 n)),
  ap V6 (sym (ap (from_be_bytes w128) (octets_of-segments_of (to_be_bytes w128 n) refl (bytes_high_first_lt 16 n)) ∙ from_be_bytes-to_be_bytes_16 n fits)),
)

pub addr_text-no_slash : (addr : Addr) (k : ℕ) → k < length (addr_text addr) → is_slash (get_or (addr_text addr) k 0) ≡ false
unfolding addr_text octets_v4
addr_text-no_slash (V4 n) k h =
    let one : IsDigitOrDot (get_or (addr_text (V4 n)) k 0) = All-ipv4_text (octets_v4 n) (bytes_high_first_lt 4 n) k 0 h in
    grind (arith, nat_tests)
addr_text-no_slash (V6 n) k h =
    let one : IsHexOrColon (get_or (addr_text (V6 n)) k 0) = All-hex_groups_text (groups_v6 n) (segments_of_lt (to_be_bytes w128 n) (bytes_high_first_lt 16 n)) k 0 h in
    grind (arith, nat_tests)
