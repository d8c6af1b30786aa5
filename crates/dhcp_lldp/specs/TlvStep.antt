-- What the first octets do to the listing of TLVs, and a TLV to what those before it said.
use Rattle.std.specs.Prelude.{◌≡◌, ℕ, ◌+◌, ◌≤◌, if◌then◌else◌, List, length, drop, Option, Some, None, Result, Ok, Err}
use Rattle.dhcp_lldp.specs.declared.heard.HearFault.{HearFault}
use Rattle.dhcp_lldp.specs.declared.heard.HearFault.TheVariants.{Order, Repeat}
use Rattle.dhcp_lldp.specs.declared.tlvs.Step.{Step}
use Rattle.dhcp_lldp.specs.declared.tlvs.Step.TheVariants.{End, Cut, Whole}
use Rattle.dhcp_lldp.specs.Listings.{no_more, cut_at, with_first}
use Rattle.dhcp_lldp.specs.Tlvs.{Tlv, listing, prefix_len, is_out_of_order, is_mud, mud_string_of}

abbrev pub IsStep : List ℕ → Step → Type 0
IsStep octets End = (offset : ℕ) → listing 0 offset octets ≡ no_more
IsStep octets Cut = (offset : ℕ) → listing 0 offset octets ≡ cut_at offset
IsStep octets (Whole kind content rest) =
    (length rest.now + (2 + length content.now) ≤ length octets)
    × ((offset : ℕ) →
    listing 0 offset octets ≡ with_first (record { kind = kind; content = content.now }) (listing 0 (offset + (2 + length content.now)) rest.now))

-- how many TLVs were read, and the MUD string of one of them
pub record SeenTlvs : Type 0 where
  pub count : ℕ
  pub string : Option (List ℕ)

abbrev pub nothing_seen : SeenTlvs
nothing_seen = record { count = 0; string = None }

unfoldable pub seen_in : List Tlv → SeenTlvs
seen_in tlvs = record { count = length tlvs; string = mud_string_of tlvs }

-- what was seen, unless a MUD URL TLV was seen before
abbrev pub once : Option (List ℕ) → SeenTlvs → Result SeenTlvs HearFault
once None seen = Ok seen
once (Some earlier) seen = Err Repeat

-- what was seen after one more TLV
unfoldable pub seen_after : SeenTlvs → Tlv → Result SeenTlvs HearFault
seen_after seen tlv =
    if is_out_of_order seen.count tlv then Err Order
    else (if is_mud tlv then once seen.string (record { count = seen.count + 1; string = Some (drop prefix_len tlv.content) })
    else Ok (record seen { count = seen.count + 1 }))
