-- What is read of the text of an address is what the grammar says.
use Rattle.std.proofs.Common.{◌≡◌, ℕ, List, [], ◌∷◌, length, Option, Some, None, refl, sym, ap, ◌∙◌, subst, append-nil, lit≤, ne_eqb, arith, option_map}
use Rattle.std.proofs.lemmas.Option.{none-some, same_Some}
use Rattle.std.specs.declared.net.ipv4_addr.Ipv4Addr.{Ipv4Addr}
use Rattle.std.specs.declared.net.ipv6_addr.Ipv6Addr.{Ipv6Addr}
use Rattle.std.specs.Net.Addr.{ipv4_octets, ipv6_segments, ipv4_bits, ipv6_bits}
use Rattle.std.specs.Net.Grammar.{IsDotted, IsColonHex, IsIpv4Text, IsIpv6Text}
use Rattle.std.specs.Net.Reader.{Read, read_ipv4, read_ipv6, whole_value}
use Rattle.std.specs.Option.{option_or}
use Rattle.std.proofs.NetLemmas.Ipv4.{read_ipv4_complete, read_ipv4_sound}
use Rattle.std.proofs.NetLemmas.Ipv6.{read_ipv6_complete, read_ipv6_sound, EndsGroups-nil, IsDotted-not_colon_hex}
use Rattle.mud_base.specs.declared.addr.Addr.{Addr}
use Rattle.mud_base.specs.declared.addr.Addr.TheVariants.{V4, V6}
use Rattle.mud_base.specs.Reading.{IsAddrText, IsAddrReading, addr_in, addr_of_octets, addr_of_groups}
use Rattle.mud_base.proofs.Parts.{ipv4_in, ipv6_in}

-- a value of a whole text leaves nothing of it
whole-Some : {A : Type 0} (x y : A) (rest : List ℕ) → whole_value (Some (x, rest)) ≡ Some y → ◌≡◌ {A = Read A} (Some (x, rest)) (Some (y, []))
whole-Some x y [] e = ap (λ z. Some (z, [])) (same_Some x y e)
whole-Some x y (c ∷ rest) e = absurd (none-some y (rw (ne_eqb (length (c ∷ rest)) 0 (omega arith)) at e))

read_of_whole : {A : Type 0} (r : Read A) (y : A) → whole_value r ≡ Some y → r ≡ Some (y, [])
read_of_whole None y e = absurd (none-some y e)
read_of_whole (Some p) y e = whole-Some p.0 y p.1 e

pub v4_sound : (text octets : List ℕ) → whole_value (read_ipv4 text) ≡ Some octets → IsDotted text octets
v4_sound text octets e =
    let (front, split, spells) = read_ipv4_sound text octets [] (read_of_whole (read_ipv4 text) octets e) in
    subst (λ t. IsDotted t octets) (sym (split ∙ append-nil front)) spells

pub v4_complete : (text octets : List ℕ) → IsDotted text octets → whole_value (read_ipv4 text) ≡ Some octets
v4_complete text octets spells = ap whole_value (ap read_ipv4 (sym (append-nil text)) ∙ read_ipv4_complete text octets [] spells (lit≤ tt))

pub v6_sound : (text groups : List ℕ) → whole_value (read_ipv6 text) ≡ Some groups → IsColonHex text groups
v6_sound text groups e =
    let (front, split, spells) = read_ipv6_sound text groups [] (read_of_whole (read_ipv6 text) groups e) in
    subst (λ t. IsColonHex t groups) (sym (split ∙ append-nil front)) spells

pub v6_complete : (text groups : List ℕ) → IsColonHex text groups → whole_value (read_ipv6 text) ≡ Some groups
v6_complete text groups spells = ap whole_value (ap read_ipv6 (sym (append-nil text)) ∙ read_ipv6_complete text groups [] spells EndsGroups-nil)

-- what the parsers of the library give
pub read_v4 : (text : List ℕ) (addr : Ipv4Addr) → IsIpv4Text text addr → ipv4_in text ≡ Some (V4 (ipv4_bits addr))
unfolding ipv4_bits
read_v4 text addr spells = ap (option_map addr_of_octets) (v4_complete text (ipv4_octets addr) spells)

pub read_v6 : (text : List ℕ) (addr : Ipv6Addr) → IsIpv6Text text addr → ipv6_in text ≡ Some (V6 (ipv6_bits addr))
unfolding ipv6_bits
read_v6 text addr spells = ap (option_map addr_of_groups) (v6_complete text (ipv6_segments addr) spells)

none_of : {A B : Type 0} (f : A → B) (o : Option A) → ((x : A) → ¬ (o ≡ Some x)) → option_map f o ≡ None
none_of f None never = refl
none_of f (Some x) never = absurd (never x refl)

pub none_v4 : (text : List ℕ) → ((addr : Ipv4Addr) → ¬ (IsIpv4Text text addr)) → ipv4_in text ≡ None
none_v4 text never = none_of addr_of_octets (whole_value (read_ipv4 text)) (λ octets e. never (record { octets = octets }) (v4_sound text octets e))

pub none_v6 : (text : List ℕ) → ((addr : Ipv6Addr) → ¬ (IsIpv6Text text addr)) → ipv6_in text ≡ None
none_v6 text never = none_of addr_of_groups (whole_value (read_ipv6 text)) (λ groups e. never (record { segments = groups }) (v6_sound text groups e))

by_whole : (text : List ℕ) (o : Option (List ℕ)) (q : Option (List ℕ)) → whole_value (read_ipv4 text) ≡ o → whole_value (read_ipv6 text) ≡ q → IsAddrReading text (option_or (option_map addr_of_octets o) (option_map addr_of_groups q))
by_whole text (Some octets) q is_v4 is_v6 = (octets, v4_sound text octets is_v4, refl)
by_whole text None (Some groups) is_v4 is_v6 = (groups, v6_sound text groups is_v6, refl)
by_whole text None None is_v4 is_v6 = neither
  where
    neither : (addr : Addr) → ¬ (IsAddrText text addr)
    neither (V4 n) spells = none-some spells.0 (sym is_v4 ∙ v4_complete text spells.0 spells.1)
    neither (V6 n) spells = none-some spells.0 (sym is_v6 ∙ v6_complete text spells.0 spells.1)

-- what is read is the address that the text writes, or none where it writes none
pub reads : (text : List ℕ) → IsAddrReading text (addr_in text)
unfolding addr_in
reads text = by_whole text _ _ refl refl

pub reads_as : (text : List ℕ) (result : Option Addr) → result ≡ addr_in text → IsAddrReading text result
reads_as text result is_read = subst (IsAddrReading text) (sym is_read) (reads text)

-- and a text that writes an address reads as that one
pub addr_in-text : (text : List ℕ) (addr : Addr) → IsAddrText text addr → addr_in text ≡ Some addr
unfolding addr_in
addr_in-text text (V4 n) spells =
    ap (λ o. option_or (option_map addr_of_octets o) (ipv6_in text)) (v4_complete text spells.0 spells.1) ∙ ap Some (sym spells.2)
addr_in-text text (V6 n) spells =
    let no_v4 : ipv4_in text ≡ None = none_of addr_of_octets (whole_value (read_ipv4 text)) (λ octets e. IsDotted-not_colon_hex text octets spells.0 (v4_sound text octets e) spells.1) in
    ap (λ o. option_or o (ipv6_in text)) no_v4 ∙ ap (option_map addr_of_groups) (v6_complete text spells.0 spells.1) ∙ ap Some (sym spells.2)
