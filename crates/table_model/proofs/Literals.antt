-- The values that the examples speak of, and the definitions that compute in them.
use Rattle.std.proofs.Common.{ℕ, false, List, [], ◌∷◌, None}
use Rattle.std.specs.Prelude.{codes}
use Rattle.mud_base.specs.Addresses.{same_addr}
use Rattle.mud_base.specs.declared.addr.Addr.{Addr}
use Rattle.mud_base.specs.declared.addr.Addr.TheVariants.{V4}
use Rattle.mud_base.specs.declared.addr.Mac.{Mac}
use Rattle.mud_base.specs.declared.packet.Fields.{Fields}
use Rattle.mud_base.specs.declared.packet.Transport.TheVariants as packet
use Rattle.base_rows.specs.Addresses.{addr_sort_key, expiry_sort_key, prefix_sort_key}
use Rattle.table_model.specs.declared.thing.Thing.{Thing}
use Rattle.table_model.specs.Expiries.{is_live, has_address, has_live, expiry_of, without_address, with_expiry, live_rows, live_count}
use Rattle.table_model.specs.Things.{mac_of, thing_at, set_thing, without_thing, new_thing, holds, with_leases, released, without_lease}
use Rattle.table_model.specs.ThingCommands.{is_pending, url_cases, url_step, move_cases, move_step, remove_step, with_hold, hold_cases, hold_step, release_cases, release_step, expiry_after, kept_lease, new_lease, known_lease, stranger_lease, lease_cases, lease_step, end_step}
use Rattle.table_model.specs.Binds.{key_of_class, class_key, class_at, set_class, without_class, class_row, has_addr, with_addr, without_addr, same_prefix, prefixes_in_order, same_prefixes, name_of, name_at, set_name, without_name, name_row, has_live_row}
use Rattle.table_model.specs.BindCommands.{bind_step, unbind_step, locals_step, addrs_of, least_dead, replacing, new_pair, kept_pair, observe_row, observe_step}
use Rattle.table_model.specs.History.{segment_of, same_endpoint, is_between, between, opens, resets, beginner_of, side_of, begun_of, with_segment, with_packet, last_packet_at, is_forward, with_moment, begun_at, begun_between, is_past}

-- the lists of addresses and expiries
unfoldable pub expiries_compute : Unit {0}
unfolding addr_sort_key expiry_sort_key same_addr is_live has_address has_live expiry_of without_address with_expiry live_rows live_count
expiries_compute = tt

-- the commands on Things
unfoldable pub things_compute : Unit {0}
unfolding expiries_compute mac_of thing_at set_thing without_thing new_thing holds with_leases released without_lease is_pending url_cases url_step move_cases move_step remove_step with_hold hold_cases hold_step release_cases release_step expiry_after kept_lease new_lease known_lease stranger_lease lease_cases lease_step end_step
things_compute = tt

-- the commands on classes, local networks and names
unfoldable pub binds_compute : Unit {0}
unfolding expiries_compute key_of_class class_key class_at set_class without_class class_row has_addr with_addr without_addr prefix_sort_key same_prefix prefixes_in_order same_prefixes name_of name_at set_name without_name name_row has_live_row bind_step unbind_step locals_step addrs_of least_dead replacing new_pair kept_pair observe_row observe_step
binds_compute = tt

-- who began a connection
unfoldable pub flows_compute : Unit {0}
unfolding same_addr segment_of same_endpoint is_between between opens resets beginner_of side_of begun_of with_segment with_packet last_packet_at is_forward with_moment begun_at begun_between is_past
flows_compute = tt

-- ---- Hardware addresses 02:00:00:00:00:01, :02 and :09

abbrev pub mac_1 : Mac
mac_1 = record { 0 = 2 ∷ 0 ∷ 0 ∷ 0 ∷ 0 ∷ 1 ∷ [] }

abbrev pub mac_2 : Mac
mac_2 = record { 0 = 2 ∷ 0 ∷ 0 ∷ 0 ∷ 0 ∷ 2 ∷ [] }

abbrev pub mac_9 : Mac
mac_9 = record { 0 = 2 ∷ 0 ∷ 0 ∷ 0 ∷ 0 ∷ 9 ∷ [] }

-- ---- Addresses

-- 192.0.2.10
abbrev pub bulb_addr : Addr
bulb_addr = V4 0xc000020a

-- 192.0.2.11
abbrev pub switch_addr : Addr
switch_addr = V4 0xc000020b

-- 192.0.2.53
abbrev pub dns_addr : Addr
dns_addr = V4 0xc0000235

-- 198.51.100.7
abbrev pub test_addr : Addr
test_addr = V4 0xc6336407

-- ---- URLs

abbrev pub bulb_url : List ℕ
bulb_url = codes "https://lighting.example.com/lightbulb2000"

abbrev pub next_url : List ℕ
next_url = codes "https://lighting.example.com/lightbulb2001"

abbrev pub switch_url : List ℕ
switch_url = codes "https://lighting.example.com/switch1"

abbrev pub dns_class : List ℕ
dns_class = codes "urn:ietf:params:mud:dns"

abbrev pub test_name : List ℕ
test_name = codes "test.example.com"

-- ---- Things

-- a light bulb with a lease of a day, taken at 1000
abbrev pub bulb : Thing
bulb = record { mac = mac_1; url = bulb_url; pending = None; leases = (bulb_addr, 87400) ∷ []; held = false }

-- the bulb without its lease
abbrev pub bare_bulb : Thing
bare_bulb = record { mac = mac_1; url = bulb_url; pending = None; leases = []; held = false }

-- a switch of the same maker, without a lease
abbrev pub bare_switch : Thing
bare_switch = record { mac = mac_2; url = switch_url; pending = None; leases = []; held = false }

-- ---- Packets

abbrev pub tcp : Addr → ℕ → Addr → ℕ → ℕ → Fields
tcp src from dst to flags = record { src = src; dst = dst; protocol = 6; dscp = 0; ecn = 0; length = 60; ttl = 64; transport = packet.Tcp from to flags }

-- the bulb opens a connection to the server, and the server answers
abbrev pub call : Fields
call = tcp bulb_addr 50000 test_addr 443 2

abbrev pub answer : Fields
answer = tcp test_addr 443 bulb_addr 50000 0x12

-- the server opens one
abbrev pub back_call : Fields
back_call = tcp test_addr 443 bulb_addr 50000 2
