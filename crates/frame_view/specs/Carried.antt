-- What an Ethernet frame carries, by the type and the tags in front of it.
use Rattle.std.specs.Prelude.{ℕ, Bool, ◌&&◌, ◌||◌, ◌==◌, nat_le, nat_lt, List, [], length, drop, Option, Some, None, Result, Ok, Err, if◌then◌else◌}
use Rattle.mud_base.specs.Ethernet.{type_offset}
use Rattle.mud_base.specs.Numbers.{big_16}
use Rattle.frame_view.specs.declared.views.Part.{Part}
use Rattle.frame_view.specs.declared.views.Part.TheVariants as part
use Rattle.frame_view.specs.PacketFrame.{Contents}
use Rattle.frame_view.specs.Ipv4 as ipv4
use Rattle.frame_view.specs.Ipv6 as ipv6

-- how many octets a type has, and a tag in front of the next type (IEEE 802.3, IEEE 802.1Q)
abbrev pub type_len : ℕ
type_len = 2

abbrev pub tag_len : ℕ
tag_len = 4

-- the type that stands first
abbrev pub first_type : List ℕ → ℕ
first_type typed = big_16 0 typed

-- the type of a tag stands first, of a customer's or of a service provider's (IEEE 802.1Q)
unfoldable pub is_tag : List ℕ → Bool
is_tag typed = nat_le type_len (length typed) && (first_type typed == 0x8100 || first_type typed == 0x88A8)

-- what follows a tag: the type that it stands in front of comes first
unfoldable pub past_tag : List ℕ → List ℕ
past_tag typed = if is_tag typed then (drop tag_len typed) else typed

-- By the type that stands first, 0800 hex for IPv4 and 86DD hex for IPv6: the packet's contents. None where it keeps the
-- link up, and for another type.
unfoldable pub by_type : List ℕ → Result (Option Contents) Part
by_type typed =
    if first_type typed == 0x0800 then (ipv4.packet_of (drop type_len typed))
    else (if first_type typed == 0x86DD then (ipv6.packet_of (drop type_len typed))
    else (Ok None))

-- What the frame carries, from its type on. There are two tags at most, with a type behind them.
unfoldable pub carried : List ℕ → Result (Option Contents) Part
carried typed =
    let inner = past_tag (past_tag typed) in
    if nat_lt (length inner) type_len || is_tag inner then (Err part.Tag) else (by_type inner)

-- what a datagram of UDP in the frame holds, and nothing where it carries none
unfoldable pub payload_of : List ℕ → List ℕ
payload_of frame = payload_in (carried (drop type_offset frame))
  where
    payload_in : Result (Option Contents) Part → List ℕ
    payload_in (Ok None) = []
    payload_in (Ok (Some contents)) = contents.payload
    payload_in (Err part) = []
