-- What LLDP frames say, computed by the definition.
use Rattle.std.specs.Prelude.{◌≡◌, ℕ, List, [], ◌∷◌, ◌++◌, take, replicate, codes, Ok, Err, refl}
use Rattle.mud_base.specs.declared.addr.Mac.{Mac}
use Rattle.mud_url.specs.declared.fault.UrlFault.TheVariants as url
use Rattle.dhcp_lldp.specs.declared.heard.Heard.TheVariants as heard
use Rattle.dhcp_lldp.specs.declared.heard.HearFault.TheVariants as faults
use Rattle.dhcp_lldp.specs.Lldp.{lldp_of}
use Rattle.dhcp_lldp.proofs.OnLiterals.{frames_on_literals}

-- the hardware address 02:00:00:00:00:01
abbrev thing : Mac
thing = record { 0 = 2 ∷ 0 ∷ 0 ∷ 0 ∷ 0 ∷ 1 ∷ [] }

-- a frame of a source that begins with this octet, with this type and these TLVs
abbrev frame_of : ℕ → List ℕ → List ℕ → List ℕ
frame_of first ethertype tlvs = 1 ∷ 128 ∷ 194 ∷ 0 ∷ 0 ∷ 14 ∷ first ∷ 0 ∷ 0 ∷ 0 ∷ 0 ∷ 1 ∷ ethertype ++ tlvs

abbrev frame : List ℕ → List ℕ
frame tlvs = frame_of 2 (136 ∷ 204 ∷ []) tlvs

-- the mandatory TLVs of 19 octets: Chassis ID, Port ID, Time To Live
abbrev chassis : List ℕ
chassis = 2 ∷ 7 ∷ 4 ∷ 2 ∷ 0 ∷ 0 ∷ 0 ∷ 0 ∷ 1 ∷ []

abbrev port : List ℕ
port = 4 ∷ 2 ∷ 7 ∷ 49 ∷ []

abbrev time_to_live : List ℕ
time_to_live = 6 ∷ 2 ∷ 0 ∷ 120 ∷ []

abbrev mandatory : List ℕ
mandatory = chassis ++ port ++ time_to_live

-- the MUD URL TLV of a URL of 42 octets
abbrev bulb : List ℕ
bulb = codes "https://lighting.example.com/lightbulb2000"

abbrev announces : List ℕ
announces = 254 ∷ 46 ∷ 0 ∷ 0 ∷ 94 ∷ 1 ∷ bulb

abbrev end : List ℕ
end = 0 ∷ 0 ∷ []

-- a URL of 29 octets and so many letters
abbrev long_url : ℕ → List ℕ
long_url letters = codes "https://lighting.example.com/" ++ replicate letters 97

-- The string of a MUD URL

mud_url : lldp_of (frame (mandatory ++ announces ++ end)) ≡ Ok (heard.Url thing bulb)
unfolding frames_on_literals
mud_url = refl

string_of_255 : lldp_of (frame (mandatory ++ 255 ∷ 3 ∷ 0 ∷ 0 ∷ 94 ∷ 1 ∷ long_url 226 ++ end)) ≡ Ok (heard.Url thing (long_url 226))
unfolding frames_on_literals
string_of_255 = refl

string_of_256 : lldp_of (frame (mandatory ++ 255 ∷ 4 ∷ 0 ∷ 0 ∷ 94 ∷ 1 ∷ long_url 227 ++ end)) ≡ Err (faults.Url url.Long)
unfolding frames_on_literals
string_of_256 = refl

empty_string : lldp_of (frame (mandatory ++ 254 ∷ 4 ∷ 0 ∷ 0 ∷ 94 ∷ 1 ∷ end)) ≡ Err (faults.Url url.Empty)
unfolding frames_on_literals
empty_string = refl

-- TLVs that say nothing of a MUD URL

mandatory_alone : lldp_of (frame (mandatory ++ end)) ≡ Ok heard.Nothing
unfolding frames_on_literals
mandatory_alone = refl

no_end : lldp_of (frame (mandatory ++ announces)) ≡ Ok (heard.Url thing bulb)
unfolding frames_on_literals
no_end = refl

behind_end : lldp_of (frame (mandatory ++ end ++ announces ++ 2 ∷ [])) ≡ Ok heard.Nothing
unfolding frames_on_literals
behind_end = refl

other_subtype : lldp_of (frame (mandatory ++ 254 ∷ 46 ∷ 0 ∷ 0 ∷ 94 ∷ 2 ∷ bulb ++ end)) ≡ Ok heard.Nothing
unfolding frames_on_literals
other_subtype = refl

short_content : lldp_of (frame (mandatory ++ 254 ∷ 3 ∷ 0 ∷ 0 ∷ 94 ∷ 254 ∷ 0 ∷ end)) ≡ Ok heard.Nothing
unfolding frames_on_literals
short_content = refl

other_type : lldp_of (frame (mandatory ++ 16 ∷ 46 ∷ 0 ∷ 0 ∷ 94 ∷ 1 ∷ bulb ++ end)) ≡ Ok heard.Nothing
unfolding frames_on_literals
other_type = refl

-- Cut frames

empty : lldp_of [] ≡ Err (faults.Cut 0)
unfolding frames_on_literals
empty = refl

without_last_of_14 : lldp_of (take 13 (frame [])) ≡ Err (faults.Cut 0)
unfolding frames_on_literals
without_last_of_14 = refl

half_header : lldp_of (frame (mandatory ++ 0 ∷ [])) ≡ Err (faults.Cut 31)
unfolding frames_on_literals
half_header = refl

long_tlv : lldp_of (frame (mandatory ++ 255 ∷ 3 ∷ 0 ∷ 0 ∷ 94 ∷ 1 ∷ bulb)) ≡ Err (faults.Cut 31)
unfolding frames_on_literals
long_tlv = refl

cut_before_order : lldp_of (frame (6 ∷ 2 ∷ 0 ∷ [])) ≡ Err (faults.Cut 14)
unfolding frames_on_literals
cut_before_order = refl

cut_end : lldp_of (frame (mandatory ++ 0 ∷ 3 ∷ 0 ∷ 0 ∷ [])) ≡ Err (faults.Cut 31)
unfolding frames_on_literals
cut_end = refl

-- Hardware

other_ethertype : lldp_of (frame_of 2 (136 ∷ 203 ∷ []) (mandatory ++ end)) ≡ Err faults.Hardware
unfolding frames_on_literals
other_ethertype = refl

group_source : lldp_of (frame_of 3 (136 ∷ 204 ∷ []) []) ≡ Err faults.Hardware
unfolding frames_on_literals
group_source = refl

-- Order

no_tlvs : lldp_of (frame []) ≡ Err faults.Order
unfolding frames_on_literals
no_tlvs = refl

two_tlvs : lldp_of (frame (chassis ++ port)) ≡ Err faults.Order
unfolding frames_on_literals
two_tlvs = refl

end_for_third : lldp_of (frame (chassis ++ port ++ end)) ≡ Err faults.Order
unfolding frames_on_literals
end_for_third = refl

swapped : lldp_of (frame (port ++ chassis ++ time_to_live ++ end)) ≡ Err faults.Order
unfolding frames_on_literals
swapped = refl

port_again : lldp_of (frame (mandatory ++ port ++ end)) ≡ Err faults.Order
unfolding frames_on_literals
port_again = refl

end_with_content : lldp_of (frame (mandatory ++ announces ++ 0 ∷ 1 ∷ 0 ∷ [])) ≡ Err faults.Order
unfolding frames_on_literals
end_with_content = refl

order_before_cut : lldp_of (frame (mandatory ++ chassis ++ 12 ∷ [])) ≡ Err faults.Order
unfolding frames_on_literals
order_before_cut = refl

-- Repeat

second_url : lldp_of (frame (mandatory ++ announces ++ announces ++ end)) ≡ Err faults.Repeat
unfolding frames_on_literals
second_url = refl

repeat_before_cut : lldp_of (frame (mandatory ++ announces ++ announces ++ 12 ∷ [])) ≡ Err faults.Repeat
unfolding frames_on_literals
repeat_before_cut = refl

repeat_before_order : lldp_of (frame (mandatory ++ announces ++ announces ++ port ++ end)) ≡ Err faults.Repeat
unfolding frames_on_literals
repeat_before_order = refl
