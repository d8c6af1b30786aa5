-- The text of a prefix is read back.
use Rattle.std.proofs.Common.{◌≡◌, ◌^◌, ◌<◌, ◌≤◌, [], ◌∷◌, ◌++◌, Some, refl, ap, ◌∙◌, arith, append_assoc, le-leb, decimal}
use Rattle.mud_base.specs.declared.addr.Addr.{Addr}
use Rattle.mud_base.specs.declared.addr.Addr.TheVariants.{V4, V6}
use Rattle.mud_base.specs.Addresses.{addr_bits, PrefixParts, IsPrefix, prefix_at}
use Rattle.std.specs.List.{before_first, after_first}
use Rattle.mud_base.specs.Texts.{addr_text, prefix_text}
use Rattle.mud_base.specs.Reading.{prefix_in, is_slash}
use Rattle.mud_base.proofs.AddrTexts.{addr_in-text}
use Rattle.mud_base.proofs.AddrBack.{FitsAddr, IsAddrText-addr_text, addr_text-no_slash}
use Rattle.mud_base.proofs.Numbers.{number_upto-decimal}
use Rattle.mud_base.proofs.Slashes.{before_first-append, after_first-append}

addr_bits_le : (addr : Addr) → addr_bits addr ≤ 128
unfolding addr_bits
addr_bits_le (V4 n) = omega arith
addr_bits_le (V6 n) = omega arith

-- a prefix is the one that its own bits make
pub prefix_at-own : (prefix : PrefixParts) → IsPrefix prefix → prefix_at prefix.addr prefix.len ≡ Some prefix
unfolding prefix_at
prefix_at-own prefix sound =
    rw (le-leb prefix.len (addr_bits prefix.addr) sound.within) (ap (λ addr. Some (record { addr = addr; len = prefix.len })) sound.cleared)

pub prefix_in-prefix_text : (prefix : PrefixParts) → FitsAddr prefix.addr → IsPrefix prefix → prefix_in (prefix_text prefix) ≡ Some prefix
unfolding prefix_in prefix_text
prefix_in-prefix_text prefix fits sound =
    let addr = prefix.addr in
    let front = addr_text addr in
    let digits = decimal prefix.len in
    let joined : prefix_text prefix ≡ front ++ 47 ∷ digits = append_assoc front (47 ∷ []) digits in
    let before : before_first is_slash (prefix_text prefix) ≡ front = ap (before_first is_slash) joined ∙ before_first-append is_slash 47 refl digits front (addr_text-no_slash addr) in
    let after : after_first is_slash (prefix_text prefix) ≡ digits = ap (after_first is_slash) joined ∙ after_first-append is_slash 47 refl digits front (addr_text-no_slash addr) in
    let small : prefix.len < 2 ^ 64 = omega (arith, addr_bits_le addr, sound.within) in
    rw (before, addr_in-text front addr (IsAddrText-addr_text addr fits), after, number_upto-decimal (addr_bits addr) prefix.len small sound.within)
    (prefix_at-own prefix sound)
