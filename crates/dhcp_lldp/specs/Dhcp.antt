-- What a DHCPv4 message says (RFC 2131).
use Rattle.std.specs.Prelude.{ℕ, ◌==◌, nat_lt, Bool, false, not, ◌&&◌, if◌then◌else◌, List, [], ◌∷◌, length, drop, slice_index, Option, Some, None, Result, Ok}
use Rattle.std.specs.Str.{bytes_eq}
use Rattle.mud_base.specs.Faults.{row, unless}
use Rattle.mud_base.specs.declared.addr.Mac.{Mac}
use Rattle.mud_base.specs.declared.addr.Addr.TheVariants.{V4}
use Rattle.mud_base.specs.Numbers.{big_32}
use Rattle.mud_base.specs.Offsets.{octets_at, mac_at, is_group_at}
use Rattle.dhcp_lldp.specs.declared.heard.Heard.{Heard}
use Rattle.dhcp_lldp.specs.declared.heard.Heard.TheVariants.{Lease, Nothing}
use Rattle.dhcp_lldp.specs.declared.heard.HearFault.{HearFault}
use Rattle.dhcp_lldp.specs.declared.heard.HearFault.TheVariants as faults
use Rattle.dhcp_lldp.specs.Mud.{announced}
use Rattle.dhcp_lldp.specs.Listings.{Listing}
use Rattle.dhcp_lldp.specs.Options.{DhcpOption, listing, Contents, contents_of, option_fault}

-- where the fields stand that are read (section 2, figure 1)
pub record Offsets : Type 0 where
  pub op : ℕ
  pub htype : ℕ
  pub hlen : ℕ
  pub yiaddr : ℕ
  pub chaddr : ℕ
  -- the magic cookie, with which the field options begins, and the first option (section 3)
  pub cookie : ℕ
  pub options : ℕ

abbrev pub offsets : Offsets
offsets = record { op = 0; htype = 1; hlen = 2; yiaddr = 16; chaddr = 28; cookie = 236; options = 240 }

-- a message of a client, and one of a server
unfoldable pub is_request : List ℕ → Bool
is_request message = slice_index message offsets.op == 1

unfoldable pub is_reply : List ℕ → Bool
is_reply message = slice_index message offsets.op == 2

-- htype 1 and hlen 6 are Ethernet's, and a client has an address of its own
unfoldable pub is_ethernet : List ℕ → Bool
is_ethernet message = slice_index message offsets.htype == 1 && slice_index message offsets.hlen == 6 && not (is_group_at offsets.chaddr message)

-- the octets 99, 130, 83 and 99 (section 3)
unfoldable pub has_cookie : List ℕ → Bool
has_cookie message = bytes_eq (octets_at 4 offsets.cookie message) (99 ∷ 130 ∷ 83 ∷ 99 ∷ [])

unfoldable pub options_of : List ℕ → Listing DhcpOption
options_of message = listing 0 offsets.options (drop offsets.options message)

-- DHCPACK is the message type 5 (RFC 2132, section 9.6)
unfoldable pub is_ack : Option (List ℕ) → Bool
is_ack None = false
is_ack (Some content) = bytes_eq content (5 ∷ [])

-- a lease time is a number of four octets (RFC 2132, section 9.2); 0 where there is no such number
unfoldable pub seconds_of : Option (List ℕ) → ℕ
seconds_of None = 0
seconds_of (Some content) = if length content == 4 then big_32 0 content else 0

-- a server acknowledges a lease of yiaddr (section 4.3.1)
unfoldable pub granted : Mac → ℕ → Contents → Heard
granted mac yiaddr contents =
    if is_ack contents.message_type && not (seconds_of contents.lease_time == 0) && not (yiaddr == 0)
    then Lease mac (V4 yiaddr) (seconds_of contents.lease_time)
    else Nothing

-- what a message without a fault says, with the contents of its options
unfoldable pub said : List ℕ → Contents → Result Heard HearFault
said message contents =
    if is_request message then announced (mac_at offsets.chaddr message) contents.mud_url
    else (if is_reply message then Ok (granted (mac_at offsets.chaddr message) (yiaddr_of message) contents) else Ok Nothing)
  where
    yiaddr_of : List ℕ → ℕ
    yiaddr_of message = big_32 offsets.yiaddr message

unfoldable pub heard_of : List ℕ → Result Heard HearFault
heard_of message = unless (rows message) (said message (contents_of (options_of message).whole))
  where
    -- the table of faults, in its order
    rows : List ℕ → List (Option HearFault)
    rows message =
        row (nat_lt (length message) offsets.options) (faults.Cut 0)
        ∷ row (not (is_ethernet message)) faults.Hardware
        ∷ row (not (has_cookie message)) faults.Cookie
        ∷ option_fault (options_of message)
        ∷ []
