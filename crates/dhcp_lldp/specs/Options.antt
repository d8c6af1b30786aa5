-- The options of a DHCP message (RFC 2132, section 2).
use Rattle.std.specs.Prelude.{ℕ, zero, suc, ◌+◌, ◌==◌, nat_lt, Bool, ◌||◌, if◌then◌else◌, List, [], ◌∷◌, length, take, drop, slice_index, Option, option_map, filter, find}
use Rattle.mud_base.specs.Faults.{row, row_at, first_row}
use Rattle.dhcp_lldp.specs.declared.heard.HearFault.{HearFault}
use Rattle.dhcp_lldp.specs.declared.heard.HearFault.TheVariants as faults
use Rattle.dhcp_lldp.specs.Listings.{Listing, no_more, cut_at, with_first}

-- an option: its code and its content
pub record DhcpOption : Type 0 where
  pub code : ℕ
  pub content : List ℕ

-- The options in the octets from an offset on, where the first so many are the rest of an option. The end of the octets ends the
-- options too.
abbrev pub listing : ℕ → ℕ → List ℕ → Listing DhcpOption
listing skipped offset [] = no_more
listing (suc skipped) offset (octet ∷ behind) = listing skipped (offset + 1) behind
listing zero offset (code ∷ behind) = at_code offset code behind (listing (if code == 0 then 0 else width behind) (offset + 1) behind)
  where
    -- how many octets an option has behind its code: the length octet, and as many as it says
    width : List ℕ → ℕ
    width behind = slice_index behind 0 + 1

    -- The options Pad (0) and End (255) are one octet (sections 3.1 and 3.2). Any other option is a code, a length octet and the content.
    at_code : ℕ → ℕ → List ℕ → Listing DhcpOption → Listing DhcpOption
    at_code offset code behind later =
        if code == 0 then later
        else (if code == 255 then no_more
        else (if nat_lt (length behind) (width behind) then cut_at offset
        else with_first (record { code = code; content = drop 1 (take (width behind) behind) }) later))

abbrev pub has_code : ℕ → DhcpOption → Bool
has_code code option = option.code == code

-- The options that are looked at may stand once: IP Address Lease Time (51) and DHCP Message Type (53) of RFC 2132, sections 9.2
-- and 9.6, and the MUD URL (161) of RFC 8520, section 10.
pub record Contents : Type 0 where
  pub lease_time : Option (List ℕ)
  pub message_type : Option (List ℕ)
  pub mud_url : Option (List ℕ)

unfoldable pub contents_of : List DhcpOption → Contents
contents_of options = record { lease_time = content_of 51 options; message_type = content_of 53 options; mud_url = content_of 161 options }
  where
    -- the content of the first option of this code
    content_of : ℕ → List DhcpOption → Option (List ℕ)
    content_of code options = option_map (λ (option : DhcpOption). option.content) (find (has_code code) options)

-- The first fault of the options. The cut option stands behind all whole ones, so a repeated one was met before it.
unfoldable pub option_fault : Listing DhcpOption → Option HearFault
option_fault l =
    first_row (
    row (is_repeated 51 l.whole || is_repeated 53 l.whole || is_repeated 161 l.whole) faults.Repeat
    ∷ row_at faults.Cut l.cut
    ∷ [])
  where
    -- does an option of this code begin a second time
    is_repeated : ℕ → List DhcpOption → Bool
    is_repeated code options = nat_lt 1 (length (filter (has_code code) options))
