-- The items in which the tables are kept.
use Rattle.std.proofs.Common.{◌≡◌, ℕ, true, false, List, [], ◌∷◌, ◌++◌, Some, None, refl}
use Rattle.std.specs.Prelude.{codes}
use Rattle.mud_base.specs.Addresses.{addr_bits, masked}
use Rattle.mud_base.specs.declared.addr.Addr.TheVariants.{V4, V6}
use Rattle.mud_base.specs.declared.prefix.Prefix.{Prefix}
use Rattle.mud_world.specs.declared.item.Item.{Item}
use Rattle.mud_url.specs.Url.{is_canonical}
use Rattle.mud_url.proofs.OnLiterals.{url_on_literals}
use Rattle.item_codec.specs.Spelling.{number, string, list, version, version_of}
use Rattle.item_codec.specs.Reading.{octets_at, number_of, number_at, string_at, list_at, version_to, version_at, end_at}
use Rattle.item_codec.specs.Records.{number_in, string_in, version_to_in, version_in, end_in, optional, optional_in, elements, each_in, elements_in, list_body, list_body_in}
use Rattle.table_model.specs.declared.thing.Thing.{Thing}
use Rattle.table_model.specs.declared.bind.Class.TheVariants.{Uri, Mine}
use Rattle.table_model.specs.declared.bind.ClassRow.{ClassRow}
use Rattle.table_model.specs.Expiries.{are_ascending, have_expiries, for_ever}
use Rattle.table_model.specs.Things.{may_wait, is_sound_thing}
use Rattle.table_model.specs.Binds.{are_prefixes, is_class_uri, is_class, is_sound_class, is_prefix, is_name, is_sound_name}
use Rattle.table_model.specs.ItemFields.{address, v4_in, v6_in, address_in, expiring, expiring_in, network_in}
use Rattle.table_model.specs.ThingItems.{thing_fields, hold_octet, thing_body, thing_item, first_thing_item, hold_in, thing_of, thing_in, may_follow, with_thing_item}
use Rattle.table_model.specs.BindItems.{class_item, class_of_key, class_in, locals_item, locals_items, are_locals, locals_in, name_item, name_in, stamp_item, stamp_items, moment_of_body, stamp_in, with_locals_item, with_stamp_item}
use Rattle.table_model.proofs.Literals.{things_compute, binds_compute, bulb_addr, dns_addr, test_addr, bulb_url, next_url, dns_class, test_name, bulb, bare_bulb, bare_switch}
use Rattle.table_model.proofs.Parts.{are_leases}

unfoldable pub items_compute : Unit {0}
unfolding things_compute binds_compute addr_bits masked number string list version version_of octets_at number_of number_at string_at list_at version_to version_at end_at number_in string_in version_to_in version_in end_in optional optional_in elements each_in elements_in list_body list_body_in are_ascending have_expiries may_wait is_sound_thing are_prefixes is_class_uri is_class is_sound_class is_prefix is_name is_sound_name address v4_in v6_in address_in expiring expiring_in network_in thing_fields hold_octet thing_body thing_item first_thing_item hold_in thing_of thing_in may_follow with_thing_item class_item class_of_key class_in locals_item locals_items are_locals locals_in name_item name_in stamp_item stamp_items moment_of_body stamp_in with_locals_item with_stamp_item
items_compute = tt

-- ---- Things

canonical : is_canonical bulb_url ≡ true
unfolding url_on_literals
canonical = refl

canonical_next : is_canonical next_url ≡ true
unfolding url_on_literals
canonical_next = refl

abbrev bulb_key : List ℕ
bulb_key = 2 ∷ 0 ∷ 0 ∷ 0 ∷ 0 ∷ 1 ∷ []

-- the body of a bulb with no lease: the version, the length 42 and the URL, nothing that waits, no lease, no hold
abbrev bare_body : List ℕ
bare_body = 2 ∷ 0 ∷ 0 ∷ 0 ∷ 42 ∷ (bulb_url ++ (0 ∷ 0 ∷ 0 ∷ 0 ∷ []))

bare_item : thing_item bare_bulb ≡ record { kind = 1; key = bulb_key; body = bare_body }
unfolding items_compute
bare_item = refl

read_bare : thing_in (record { kind = 1; key = bulb_key; body = bare_body }) ≡ Some bare_bulb
unfolding items_compute
read_bare = rw canonical refl

-- the same in version 1, which has no hold
abbrev first_body : List ℕ
first_body = 1 ∷ 0 ∷ 0 ∷ 0 ∷ 42 ∷ (bulb_url ++ (0 ∷ 0 ∷ 0 ∷ []))

first_item : first_thing_item bare_bulb ≡ record { kind = 1; key = bulb_key; body = first_body }
unfolding items_compute
first_item = refl

read_first : thing_in (record { kind = 1; key = bulb_key; body = first_body }) ≡ Some bare_bulb
unfolding items_compute
read_first = rw canonical refl

-- version 1 with the octet of version 2, and version 2 without it
first_with_hold : thing_in (record { kind = 1; key = bulb_key; body = first_body ++ 0 ∷ [] }) ≡ None
unfolding items_compute
first_with_hold = refl

second_without_hold : thing_in (record { kind = 1; key = bulb_key; body = 2 ∷ 0 ∷ 0 ∷ 0 ∷ 42 ∷ (bulb_url ++ (0 ∷ 0 ∷ 0 ∷ [])) }) ≡ None
unfolding items_compute
second_without_hold = refl

-- a held one, and an octet that is neither
held_item : thing_item (record bare_bulb { held = true }) ≡ record { kind = 1; key = bulb_key; body = 2 ∷ 0 ∷ 0 ∷ 0 ∷ 42 ∷ (bulb_url ++ (0 ∷ 0 ∷ 0 ∷ 1 ∷ [])) }
unfolding items_compute
held_item = refl

read_held : thing_in (record { kind = 1; key = bulb_key; body = 2 ∷ 0 ∷ 0 ∷ 0 ∷ 42 ∷ (bulb_url ++ (0 ∷ 0 ∷ 0 ∷ 1 ∷ [])) }) ≡ Some (record bare_bulb { held = true })
unfolding items_compute
read_held = rw canonical refl

other_hold : thing_in (record { kind = 1; key = bulb_key; body = 2 ∷ 0 ∷ 0 ∷ 0 ∷ 42 ∷ (bulb_url ++ (0 ∷ 0 ∷ 0 ∷ 2 ∷ [])) }) ≡ None
unfolding items_compute
other_hold = refl

-- a URL that waits, and a lease until 87400 (15568 hex)
abbrev full_bulb : Thing
full_bulb = record bulb { pending = Some next_url }

abbrev full_body : List ℕ
full_body = 2 ∷ 0 ∷ 0 ∷ 0 ∷ 42 ∷ (bulb_url ++ (1 ∷ 0 ∷ 0 ∷ 0 ∷ 42 ∷ (next_url ++ (0 ∷ 1 ∷ 4 ∷ 192 ∷ 0 ∷ 2 ∷ 10 ∷ 0 ∷ 0 ∷ 0 ∷ 0 ∷ 0 ∷ 1 ∷ 0x55 ∷ 0x68 ∷ 0 ∷ []))))

abbrev item : ℕ → List ℕ → List ℕ → Item
item kind key body = record { kind = kind; key = key; body = body }

full_item : thing_item full_bulb ≡ item 1 bulb_key full_body
unfolding items_compute
full_item = refl

read_full : thing_in (item 1 bulb_key full_body) ≡ Some full_bulb
unfolding items_compute
read_full = rw (canonical, canonical_next) refl

-- an empty body
no_body : thing_in (item 1 bulb_key []) ≡ None
unfolding items_compute
no_body = refl

-- one octet behind the last field
tail : thing_in (item 1 bulb_key (full_body ++ 0 ∷ [])) ≡ None
unfolding items_compute
tail = refl

short_key : thing_in (item 1 (2 ∷ 0 ∷ 0 ∷ 0 ∷ 0 ∷ []) full_body) ≡ None
unfolding items_compute
short_key = refl

other_kind : thing_in (item 2 bulb_key full_body) ≡ None
unfolding items_compute
other_kind = refl

later_version : thing_in (item 1 bulb_key (3 ∷ 0 ∷ 0 ∷ 0 ∷ 42 ∷ (bulb_url ++ (0 ∷ 0 ∷ 0 ∷ [])))) ≡ None
unfolding items_compute
later_version = refl

-- a host in upper case isn't canonical
not_canonical : is_canonical (codes "https://A.example/") ≡ false
unfolding url_on_literals
not_canonical = refl

upper_case : thing_in (item 1 bulb_key (2 ∷ 0 ∷ 0 ∷ 0 ∷ 18 ∷ (codes "https://A.example/" ++ (0 ∷ 0 ∷ 0 ∷ 0 ∷ [])))) ≡ None
unfolding items_compute
upper_case = rw not_canonical refl

-- its own URL can't wait
own_url_waits : thing_in (item 1 bulb_key (2 ∷ 0 ∷ 0 ∷ 0 ∷ 42 ∷ (bulb_url ++ (1 ∷ 0 ∷ 0 ∷ 0 ∷ 42 ∷ (bulb_url ++ (0 ∷ 0 ∷ 0 ∷ [])))))) ≡ None
unfolding items_compute
own_url_waits = rw canonical refl

-- leases in their order, each address once, and at most four
in_order : are_leases ((V4 1, 1000) ∷ (V4 2, 900) ∷ (V6 0, for_ever) ∷ []) ≡ true
unfolding items_compute
in_order = refl

out_of_order : are_leases ((V4 2, 1000) ∷ (V4 1, 1000) ∷ []) ≡ false
unfolding items_compute
out_of_order = refl

address_twice : are_leases ((V4 2, 1000) ∷ (V4 2, 1001) ∷ []) ≡ false
unfolding items_compute
address_twice = refl

five_leases : are_leases ((V4 1, 1) ∷ (V4 2, 1) ∷ (V4 3, 1) ∷ (V4 4, 1) ∷ (V4 5, 1) ∷ []) ≡ false
unfolding items_compute
five_leases = refl

-- the last expiry below 2^40, and 2^40 itself
last_end : are_leases ((V4 1, 1099511627775) ∷ []) ≡ true
unfolding items_compute
last_end = refl

past_last_end : are_leases ((V4 1, 1099511627776) ∷ []) ≡ false
unfolding items_compute
past_last_end = refl

-- Things stand in the order of their hardware addresses, and an address has one Thing
follows : may_follow (bulb ∷ []) bare_switch ≡ true
unfolding items_compute
follows = refl

same_mac : may_follow (bulb ∷ []) bulb ≡ false
unfolding items_compute
same_mac = refl

taken_address : may_follow (bulb ∷ []) (record bare_switch { leases = (bulb_addr, 900) ∷ [] }) ≡ false
unfolding items_compute
taken_address = refl

-- ---- Classes

abbrev dns_row : ClassRow
dns_row = record { class = Uri dns_class; addrs = dns_addr ∷ V6 1 ∷ [] }

abbrev dns_body : List ℕ
dns_body = 1 ∷ 0 ∷ 2 ∷ 4 ∷ 192 ∷ 0 ∷ 2 ∷ 53 ∷ 6 ∷ 0 ∷ 0 ∷ 0 ∷ 0 ∷ 0 ∷ 0 ∷ 0 ∷ 0 ∷ 0 ∷ 0 ∷ 0 ∷ 0 ∷ 0 ∷ 0 ∷ 0 ∷ 1 ∷ []

dns_item : class_item dns_row ≡ item 3 (1 ∷ dns_class) dns_body
unfolding items_compute
dns_item = refl

read_dns : class_in (item 3 (1 ∷ dns_class) dns_body) ≡ Some dns_row
unfolding items_compute
read_dns = refl

mine_item : class_item (record { class = Mine bulb_url; addrs = dns_addr ∷ [] }) ≡ item 3 (2 ∷ bulb_url) (1 ∷ 0 ∷ 1 ∷ 4 ∷ 192 ∷ 0 ∷ 2 ∷ 53 ∷ [])
unfolding items_compute
mine_item = refl

read_mine : class_in (item 3 (2 ∷ bulb_url) (1 ∷ 0 ∷ 1 ∷ 4 ∷ 192 ∷ 0 ∷ 2 ∷ 53 ∷ [])) ≡ Some (record { class = Mine bulb_url; addrs = dns_addr ∷ [] })
unfolding items_compute
read_mine = rw canonical refl

empty_class : class_in (item 3 (1 ∷ dns_class) (1 ∷ 0 ∷ 0 ∷ [])) ≡ None
unfolding items_compute
empty_class = refl

empty_uri : class_in (item 3 (1 ∷ []) dns_body) ≡ None
unfolding items_compute
empty_uri = refl

other_class : class_in (item 3 (3 ∷ dns_class) dns_body) ≡ None
unfolding items_compute
other_class = refl

-- ---- Local networks

-- 192.0.2.0/24 and 2001:db8::/32
abbrev networks : List Prefix
networks = record { addr = V4 0xc0000200; len = 24 } ∷ record { addr = V6 0x20010db8000000000000000000000000; len = 32 } ∷ []

abbrev networks_body : List ℕ
networks_body = 1 ∷ 0 ∷ 2 ∷ 4 ∷ 192 ∷ 0 ∷ 2 ∷ 0 ∷ 24 ∷ 6 ∷ 0x20 ∷ 1 ∷ 0x0d ∷ 0xb8 ∷ 0 ∷ 0 ∷ 0 ∷ 0 ∷ 0 ∷ 0 ∷ 0 ∷ 0 ∷ 0 ∷ 0 ∷ 0 ∷ 0 ∷ 32 ∷ []

networks_item : locals_items networks ≡ item 4 [] networks_body ∷ []
unfolding items_compute
networks_item = refl

read_networks : locals_in (item 4 [] networks_body) ≡ Some networks
unfolding items_compute
read_networks = refl

-- one item has them all: none follows it
first_networks : with_locals_item [] (item 4 [] networks_body) ≡ Some networks
unfolding items_compute
first_networks = refl

second_networks : with_locals_item networks (item 4 [] networks_body) ≡ None
unfolding items_compute
second_networks = refl

-- no item says that there are none
no_networks : locals_items [] ≡ []
unfolding items_compute
no_networks = refl

empty_networks : locals_in (item 4 [] (1 ∷ 0 ∷ 0 ∷ [])) ≡ None
unfolding items_compute
empty_networks = refl

-- 192.0.2.1/24
host_bits : locals_in (item 4 [] (1 ∷ 0 ∷ 1 ∷ 4 ∷ 192 ∷ 0 ∷ 2 ∷ 1 ∷ 24 ∷ [])) ≡ None
unfolding items_compute
host_bits = refl

long_prefix : locals_in (item 4 [] (1 ∷ 0 ∷ 1 ∷ 4 ∷ 192 ∷ 0 ∷ 2 ∷ 0 ∷ 33 ∷ [])) ≡ None
unfolding items_compute
long_prefix = refl

-- ---- Names

-- 198.51.100.7 until 1060 (424 hex)
abbrev test_body : List ℕ
test_body = 1 ∷ 0 ∷ 1 ∷ 4 ∷ 198 ∷ 51 ∷ 100 ∷ 7 ∷ 0 ∷ 0 ∷ 0 ∷ 0 ∷ 0 ∷ 0 ∷ 4 ∷ 0x24 ∷ []

test_item : name_item (record { name = test_name; addrs = (test_addr, 1060) ∷ [] }) ≡ item 5 test_name test_body
unfolding items_compute
test_item = refl

good_name : is_name test_name ≡ true
unfolding is_name url_on_literals
good_name = refl

bad_name : is_name (codes "Test.example.com") ≡ false
unfolding is_name url_on_literals
bad_name = refl

read_test : name_in (item 5 test_name test_body) ≡ Some (record { name = test_name; addrs = (test_addr, 1060) ∷ [] })
unfolding items_compute url_on_literals
read_test = refl

upper_name : name_in (item 5 (codes "Test.example.com") test_body) ≡ None
unfolding items_compute url_on_literals
upper_name = refl

-- ---- The stamp

stamp_1000 : stamp_items (Some 1000) ≡ item 6 [] (1 ∷ 0 ∷ 0 ∷ 0 ∷ 0 ∷ 0 ∷ 0 ∷ 3 ∷ 0xe8 ∷ []) ∷ []
unfolding items_compute
stamp_1000 = refl

read_stamp : stamp_in (item 6 [] (1 ∷ 0 ∷ 0 ∷ 0 ∷ 0 ∷ 0 ∷ 0 ∷ 3 ∷ 0xe8 ∷ [])) ≡ Some 1000
unfolding items_compute
read_stamp = refl

-- there is one stamp
first_stamp : with_stamp_item None (stamp_item 1000) ≡ Some 1000
unfolding items_compute
first_stamp = refl

second_stamp : with_stamp_item (Some 1000) (stamp_item 1000) ≡ None
unfolding items_compute
second_stamp = refl

-- one second past the last moment
past_last_moment : stamp_in (item 6 [] (1 ∷ 0 ∷ 0 ∷ 0 ∷ 0x3a ∷ 0xff ∷ 0xf4 ∷ 0x41 ∷ 0x80 ∷ [])) ≡ None
unfolding items_compute
past_last_moment = refl

no_stamp : stamp_items None ≡ []
unfolding items_compute
no_stamp = refl
