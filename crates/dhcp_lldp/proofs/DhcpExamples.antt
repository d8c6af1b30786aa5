-- What DHCPv4 messages say, computed by the definition.
use Rattle.std.specs.Prelude.{◌≡◌, ℕ, List, [], ◌∷◌, ◌++◌, take, replicate, codes, Ok, Err, refl}
use Rattle.mud_base.specs.declared.addr.Mac.{Mac}
use Rattle.mud_base.specs.declared.addr.Addr.TheVariants.{V4}
use Rattle.mud_url.specs.declared.fault.UrlFault.TheVariants as url
use Rattle.dhcp_lldp.specs.declared.heard.Heard.TheVariants as heard
use Rattle.dhcp_lldp.specs.declared.heard.HearFault.TheVariants as faults
use Rattle.dhcp_lldp.specs.Dhcp.{heard_of}
use Rattle.dhcp_lldp.proofs.OnLiterals.{messages_on_literals}

-- the hardware address 02:00:00:00:00:01
abbrev thing : Mac
thing = record { 0 = 2 ∷ 0 ∷ 0 ∷ 0 ∷ 0 ∷ 1 ∷ [] }

abbrev cookie : List ℕ
cookie = 99 ∷ 130 ∷ 83 ∷ 99 ∷ []

-- a message with these fields and options
abbrev message : ℕ → ℕ → ℕ → List ℕ → ℕ → List ℕ → List ℕ → List ℕ
message op htype hlen yiaddr first magic options =
    op ∷ htype ∷ hlen ∷ 0 ∷ 0 ∷ 0 ∷ 0 ∷ 1 ∷ replicate 8 0 ++ yiaddr ++ replicate 8 0
    ++ (first ∷ 0 ∷ 0 ∷ 0 ∷ 0 ∷ 1 ∷ []) ++ replicate 202 0 ++ magic ++ options

-- a client's message
abbrev request : List ℕ → List ℕ
request options = message 1 1 6 (0 ∷ 0 ∷ 0 ∷ 0 ∷ []) 2 cookie options

-- a server's message about the address 192.0.2.10
abbrev reply : List ℕ → List ℕ
reply options = message 2 1 6 (192 ∷ 0 ∷ 2 ∷ 10 ∷ []) 2 cookie options

-- DHCP Message Type: DHCPREQUEST, and DHCPACK
abbrev asks : List ℕ
asks = 53 ∷ 1 ∷ 3 ∷ []

abbrev acknowledges : List ℕ
acknowledges = 53 ∷ 1 ∷ 5 ∷ []

-- IP Address Lease Time: 86,400 seconds
abbrev for_a_day : List ℕ
for_a_day = 51 ∷ 4 ∷ 0 ∷ 1 ∷ 81 ∷ 128 ∷ []

-- a URL of 42 octets, and the option of it
abbrev bulb : List ℕ
bulb = codes "https://lighting.example.com/lightbulb2000"

abbrev announces : List ℕ
announces = 161 ∷ 42 ∷ bulb

abbrev end : List ℕ
end = 255 ∷ []

-- The string of a MUD URL

url_and_more : heard_of (request (asks ++ 161 ∷ 44 ∷ bulb ++ codes " x" ++ end)) ≡ Ok (heard.Url thing bulb)
unfolding messages_on_literals
url_and_more = refl

url_with_zero : heard_of (request (asks ++ 161 ∷ 43 ∷ bulb ++ 0 ∷ end)) ≡ Ok (heard.Url thing bulb)
unfolding messages_on_literals
url_with_zero = refl

other_scheme : heard_of (request (asks ++ 161 ∷ 28 ∷ codes "http://lighting.example.com/" ++ end)) ≡ Err (faults.Url url.Scheme)
unfolding messages_on_literals
other_scheme = refl

empty_string : heard_of (request (asks ++ 161 ∷ 0 ∷ end)) ≡ Err (faults.Url url.Empty)
unfolding messages_on_literals
empty_string = refl

-- Cut messages

empty : heard_of [] ≡ Err (faults.Cut 0)
unfolding messages_on_literals
empty = refl

without_last_of_240 : heard_of (take 239 (request [])) ≡ Err (faults.Cut 0)
unfolding messages_on_literals
without_last_of_240 = refl

long_option : heard_of (request (asks ++ 161 ∷ 200 ∷ codes "https")) ≡ Err (faults.Cut 243)
unfolding messages_on_literals
long_option = refl

code_alone : heard_of (request (asks ++ 0 ∷ 161 ∷ [])) ≡ Err (faults.Cut 244)
unfolding messages_on_literals
code_alone = refl

cut_before_url : heard_of (request (161 ∷ 1 ∷ 35 ∷ 12 ∷ 9 ∷ [])) ≡ Err (faults.Cut 243)
unfolding messages_on_literals
cut_before_url = refl

-- Options

no_options : heard_of (request []) ≡ Ok heard.Nothing
unfolding messages_on_literals
no_options = refl

type_alone : heard_of (request (asks ++ end)) ≡ Ok heard.Nothing
unfolding messages_on_literals
type_alone = refl

pads : heard_of (request (0 ∷ asks ++ 0 ∷ 0 ∷ announces ++ 0 ∷ end)) ≡ Ok (heard.Url thing bulb)
unfolding messages_on_literals
pads = refl

no_end : heard_of (request announces) ≡ Ok (heard.Url thing bulb)
unfolding messages_on_literals
no_end = refl

behind_end : heard_of (request (asks ++ end ++ announces ++ 161 ∷ [])) ≡ Ok heard.Nothing
unfolding messages_on_literals
behind_end = refl

second_url : heard_of (request (announces ++ announces ++ end)) ≡ Err faults.Repeat
unfolding messages_on_literals
second_url = refl

second_type : heard_of (request (asks ++ asks ++ end)) ≡ Err faults.Repeat
unfolding messages_on_literals
second_type = refl

second_lease_time : heard_of (reply (acknowledges ++ for_a_day ++ for_a_day ++ end)) ≡ Err faults.Repeat
unfolding messages_on_literals
second_lease_time = refl

second_of_another : heard_of (reply (12 ∷ 1 ∷ 97 ∷ 12 ∷ 1 ∷ 97 ∷ acknowledges ++ for_a_day ++ end)) ≡ Ok (heard.Lease thing (V4 3221225994) 86400)
unfolding messages_on_literals
second_of_another = refl

repeated_before_cut : heard_of (request (asks ++ asks ++ 161 ∷ 9 ∷ [])) ≡ Err faults.Repeat
unfolding messages_on_literals
repeated_before_cut = refl

second_one_cut : heard_of (request (announces ++ 161 ∷ 9 ∷ [])) ≡ Err (faults.Cut 284)
unfolding messages_on_literals
second_one_cut = refl

-- Hardware and cookie

token_ring : heard_of (message 1 6 6 (0 ∷ 0 ∷ 0 ∷ 0 ∷ []) 2 cookie end) ≡ Err faults.Hardware
unfolding messages_on_literals
token_ring = refl

short_address : heard_of (message 1 1 5 (0 ∷ 0 ∷ 0 ∷ 0 ∷ []) 2 cookie end) ≡ Err faults.Hardware
unfolding messages_on_literals
short_address = refl

group_before_cookie : heard_of (message 1 1 6 (0 ∷ 0 ∷ 0 ∷ 0 ∷ []) 3 (replicate 4 0) end) ≡ Err faults.Hardware
unfolding messages_on_literals
group_before_cookie = refl

bootp : heard_of (message 1 1 6 (0 ∷ 0 ∷ 0 ∷ 0 ∷ []) 2 (replicate 4 0) (161 ∷ 9 ∷ [])) ≡ Err faults.Cookie
unfolding messages_on_literals
bootp = refl

-- Leases

lease : heard_of (reply (acknowledges ++ for_a_day ++ end)) ≡ Ok (heard.Lease thing (V4 3221225994) 86400)
unfolding messages_on_literals
lease = refl

lease_and_url : heard_of (reply (announces ++ for_a_day ++ acknowledges ++ end)) ≡ Ok (heard.Lease thing (V4 3221225994) 86400)
unfolding messages_on_literals
lease_and_url = refl

offer : heard_of (reply (53 ∷ 1 ∷ 2 ∷ for_a_day ++ end)) ≡ Ok heard.Nothing
unfolding messages_on_literals
offer = refl

wide_type : heard_of (reply (53 ∷ 2 ∷ 5 ∷ 5 ∷ for_a_day ++ end)) ≡ Ok heard.Nothing
unfolding messages_on_literals
wide_type = refl

no_lease_time : heard_of (reply (acknowledges ++ end)) ≡ Ok heard.Nothing
unfolding messages_on_literals
no_lease_time = refl

narrow_lease_time : heard_of (reply (acknowledges ++ 51 ∷ 3 ∷ 1 ∷ 81 ∷ 128 ∷ end)) ≡ Ok heard.Nothing
unfolding messages_on_literals
narrow_lease_time = refl

lease_of_no_seconds : heard_of (reply (acknowledges ++ 51 ∷ 4 ∷ 0 ∷ 0 ∷ 0 ∷ 0 ∷ end)) ≡ Ok heard.Nothing
unfolding messages_on_literals
lease_of_no_seconds = refl

lease_of_no_address : heard_of (message 2 1 6 (0 ∷ 0 ∷ 0 ∷ 0 ∷ []) 2 cookie (acknowledges ++ for_a_day ++ end)) ≡ Ok heard.Nothing
unfolding messages_on_literals
lease_of_no_address = refl

lease_by_client : heard_of (message 1 1 6 (192 ∷ 0 ∷ 2 ∷ 10 ∷ []) 2 cookie (acknowledges ++ for_a_day ++ end)) ≡ Ok heard.Nothing
unfolding messages_on_literals
lease_by_client = refl

url_by_server : heard_of (reply (53 ∷ 1 ∷ 2 ∷ announces ++ end)) ≡ Ok heard.Nothing
unfolding messages_on_literals
url_by_server = refl

other_op : heard_of (message 3 1 6 (192 ∷ 0 ∷ 2 ∷ 10 ∷ []) 2 cookie (announces ++ acknowledges ++ for_a_day ++ end)) ≡ Ok heard.Nothing
unfolding messages_on_literals
other_op = refl
