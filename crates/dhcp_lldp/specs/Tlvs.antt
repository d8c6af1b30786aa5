-- The TLVs of an LLDP frame (IEEE 802.1AB, clause 8).
use Rattle.std.specs.Prelude.{ℕ, zero, suc, ◌+◌, ◌*◌, ◌/◌, ◌%◌, ◌==◌, nat_lt, nat_le, Bool, false, not, ◌||◌, ◌&&◌, if◌then◌else◌, List, [], ◌∷◌, length, take, drop, slice_index, Option, option_map, find}
use Rattle.std.specs.Str.{bytes_eq}
use Rattle.mud_base.specs.Faults.{row, row_at, first_row}
use Rattle.dhcp_lldp.specs.declared.heard.HearFault.{HearFault}
use Rattle.dhcp_lldp.specs.declared.heard.HearFault.TheVariants as faults
use Rattle.dhcp_lldp.specs.Listings.{Listing, no_more, cut_at, with_first}

-- a TLV: its type and its content
pub record Tlv : Type 0 where
  pub kind : ℕ
  pub content : List ℕ

-- The TLVs in the octets from an offset on, where the first so many are the rest of a TLV. The end of the octets ends the TLVs
-- too.
abbrev pub listing : ℕ → ℕ → List ℕ → Listing Tlv
listing skipped offset [] = no_more
listing (suc skipped) offset (octet ∷ behind) = listing skipped (offset + 1) behind
listing zero offset (header ∷ behind) = at_header offset header behind (listing (width header behind) (offset + 1) behind)
  where
    -- The header is 7 bits of type and 9 bits of length, in two octets (clause 8.4).
    kind_of : ℕ → ℕ
    kind_of header = header / 2

    -- how many octets a TLV has behind the first one of its header: the second one, and the content
    width : ℕ → List ℕ → ℕ
    width header behind = 256 * (header % 2) + slice_index behind 0 + 1

    -- The End Of LLDPDU TLV, of type 0, is the last one (clause 8.5.1).
    at_header : ℕ → ℕ → List ℕ → Listing Tlv → Listing Tlv
    at_header offset header behind later =
        if nat_lt (length behind) (width header behind) then cut_at offset
        else with_first (record { kind = kind_of header; content = drop 1 (take (width header behind) behind) })
        (if kind_of header == 0 then no_more else later)

-- The first three TLVs are Chassis ID (type 1), Port ID (2) and Time To Live (3), which don't come again (clause 8.2). An
-- End Of LLDPDU is empty.
unfoldable pub is_out_of_order : ℕ → Tlv → Bool
is_out_of_order before tlv =
    if nat_lt before 3 then not (tlv.kind == before + 1)
    else (nat_le 1 tlv.kind && nat_le tlv.kind 3) || (tlv.kind == 0 && not (length tlv.content == 0))

-- how many octets the OUI and the subtype of an organizationally specific TLV take (clause 8.6)
abbrev pub prefix_len : ℕ
prefix_len = 4

-- The MUD URL TLV is organizationally specific (type 127), with the OUI 00-00-5E and the subtype 1 (RFC 8520, section 12).
unfoldable pub is_mud : Tlv → Bool
is_mud tlv = tlv.kind == 127 && bytes_eq (take prefix_len tlv.content) (0 ∷ 0 ∷ 94 ∷ 1 ∷ [])

unfoldable pub tlv_fault : Listing Tlv → Option HearFault
tlv_fault l = first_row (tlv_rows 0 false l.cut l.whole)
  where
    -- The table of faults of the TLVs in their order, where so many TLVs stand before them, and a MUD URL TLV among these or not.
    tlv_rows : ℕ → Bool → Option ℕ → List Tlv → List (Option HearFault)
    tlv_rows before is_announced cut [] = row_at faults.Cut cut ∷ row (nat_lt before 3) faults.Order ∷ []
    tlv_rows before is_announced cut (tlv ∷ more) =
        row (is_out_of_order before tlv) faults.Order
        ∷ row (is_announced && is_mud tlv) faults.Repeat
        ∷ tlv_rows (before + 1) (is_announced || is_mud tlv) cut more

-- the MUD string, which stands behind the OUI and the subtype
unfoldable pub mud_string_of : List Tlv → Option (List ℕ)
mud_string_of tlvs = option_map (λ (tlv : Tlv). drop prefix_len tlv.content) (find is_mud tlvs)
