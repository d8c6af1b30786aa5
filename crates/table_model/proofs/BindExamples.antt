-- The commands on classes, local networks and names, case by case.
use Rattle.std.proofs.Common.{◌≡◌, ℕ, List, [], ◌∷◌, ◌++◌, length, map, Some, None, Err, refl, true}
use Rattle.std.specs.Prelude.{nat_le, codes}
use Rattle.std.specs.List.{range_with_len}
use Rattle.mud_base.specs.declared.addr.Addr.{Addr}
use Rattle.mud_base.specs.declared.addr.Addr.TheVariants.{V4, V6}
use Rattle.mud_base.specs.declared.prefix.Prefix.{Prefix}
use Rattle.item_codec.specs.declared.word.Word.TheVariants.{New, Same, Renewed, Bound, Unbound, Set}
use Rattle.table_model.specs.declared.bind.Class.{Class}
use Rattle.table_model.specs.declared.bind.Class.TheVariants.{Uri, Mine}
use Rattle.table_model.specs.declared.bind.ClassRow.{ClassRow}
use Rattle.table_model.specs.declared.bind.NameRow.{NameRow}
use Rattle.table_model.specs.declared.bind_fault.BindFault.TheVariants.{ClassesFull, ClassFull, NotBound, LocalsFull, NamesFull, NameFull}
use Rattle.table_model.specs.Binds.{class_at, name_at, name_row}
use Rattle.table_model.specs.BindCommands.{classes_done, observed, bind_step, unbind_step, locals_step, least_dead, addrs_of, replacing, new_pair, observe_row, observe_step}
use Rattle.table_model.specs.Expiries.{expiry_of}
use Rattle.table_model.proofs.Literals.{binds_compute, bulb_addr, switch_addr, dns_addr, test_addr, bulb_url, dns_class, test_name}
use Rattle.table_model.proofs.Parts.{locals_done}

-- ---- Classes

abbrev dns_row : ClassRow
dns_row = record { class = Uri dns_class; addrs = dns_addr ∷ [] }

abbrev mine_row : ClassRow
mine_row = record { class = Mine bulb_url; addrs = switch_addr ∷ [] }

first_address : bind_step (Uri dns_class) dns_addr [] ≡ classes_done Bound (dns_row ∷ [])
unfolding binds_compute
first_address = refl

-- classes by URI stand before those by MUD URL
other_class : bind_step (Uri dns_class) dns_addr (mine_row ∷ []) ≡ classes_done Bound (dns_row ∷ mine_row ∷ [])
unfolding binds_compute
other_class = refl

bound_already : bind_step (Uri dns_class) dns_addr (dns_row ∷ []) ≡ classes_done Same (dns_row ∷ [])
unfolding binds_compute
bound_already = refl

-- addresses stand in their order, IPv4 before IPv6
second_address : bind_step (Uri dns_class) (V6 1) (dns_row ∷ []) ≡ classes_done Bound (record dns_row { addrs = dns_addr ∷ V6 1 ∷ [] } ∷ [])
unfolding binds_compute
second_address = refl

lesser_address : bind_step (Uri dns_class) bulb_addr (dns_row ∷ []) ≡ classes_done Bound (record dns_row { addrs = bulb_addr ∷ dns_addr ∷ [] } ∷ [])
unfolding binds_compute
lesser_address = refl

-- a class that isn't kept, where 256 are
no_room_for_class : (class : Class) (a : Addr) (classes : List ClassRow) → class_at class classes ≡ None → nat_le 256 (length classes) ≡ true → bind_step class a classes ≡ Err ClassesFull
unfolding bind_step
no_room_for_class class a classes unknown full = rw (unknown, full) refl

-- the addresses 1, 2, .. of a class or a name
abbrev many : ℕ → List Addr
many n = map V4 (range_with_len 1 n)

full_class : bind_step (Uri dns_class) dns_addr (record dns_row { addrs = many 64 } ∷ []) ≡ Err ClassFull
unfolding binds_compute
full_class = refl

full_class_same : bind_step (Uri dns_class) (V4 7) (record dns_row { addrs = many 64 } ∷ []) ≡ classes_done Same (record dns_row { addrs = many 64 } ∷ [])
unfolding binds_compute
full_class_same = refl

last_of_class : bind_step (Uri dns_class) (V4 64) (record dns_row { addrs = many 63 } ∷ []) ≡ classes_done Bound (record dns_row { addrs = many 64 } ∷ [])
unfolding binds_compute
last_of_class = refl

-- the last address takes its class with it
unbind_last : unbind_step (Uri dns_class) dns_addr (dns_row ∷ mine_row ∷ []) ≡ classes_done Unbound (mine_row ∷ [])
unfolding binds_compute
unbind_last = refl

unbind_one : unbind_step (Uri dns_class) (V4 2) (record dns_row { addrs = many 3 } ∷ []) ≡ classes_done Unbound (record dns_row { addrs = V4 1 ∷ V4 3 ∷ [] } ∷ [])
unfolding binds_compute
unbind_one = refl

unbind_unknown : unbind_step (Uri dns_class) dns_addr (mine_row ∷ []) ≡ Err NotBound
unfolding binds_compute
unbind_unknown = refl

unbind_other_address : unbind_step (Uri dns_class) bulb_addr (dns_row ∷ []) ≡ Err NotBound
unfolding binds_compute
unbind_other_address = refl

-- ---- Local networks

-- 192.0.2.0/24
abbrev near_net : Prefix
near_net = record { addr = V4 0xc0000200; len = 24 }

-- 2001:db8::/32
abbrev wide_net : Prefix
wide_net = record { addr = V6 0x20010db8000000000000000000000000; len = 32 }

first_locals : locals_step (near_net ∷ []) [] ≡ locals_done Set (near_net ∷ [])
unfolding binds_compute
first_locals = refl

-- in any order, and more than once
same_locals : locals_step (wide_net ∷ near_net ∷ wide_net ∷ []) (near_net ∷ wide_net ∷ []) ≡ locals_done Same (near_net ∷ wide_net ∷ [])
unfolding binds_compute
same_locals = refl

-- they take the place of those before
fewer_locals : locals_step (near_net ∷ []) (near_net ∷ wide_net ∷ []) ≡ locals_done Set (near_net ∷ [])
unfolding binds_compute
fewer_locals = refl

no_locals : locals_step [] (near_net ∷ []) ≡ locals_done Set []
unfolding binds_compute
no_locals = refl

-- a prefix of a prefix is another prefix: the shorter stands first
nested_locals : locals_step (near_net ∷ record near_net { len = 25 } ∷ []) [] ≡ locals_done Set (near_net ∷ record near_net { len = 25 } ∷ [])
unfolding binds_compute
nested_locals = refl

abbrev net : ℕ → Prefix
net n = record { addr = V4 n; len = 32 }

abbrev many_nets : ℕ → List Prefix
many_nets n = map net (range_with_len 1 n)

most_locals : locals_step (many_nets 64) [] ≡ locals_done Set (many_nets 64)
unfolding binds_compute
most_locals = refl

too_many_locals : locals_step (many_nets 65) [] ≡ Err LocalsFull
unfolding binds_compute
too_many_locals = refl

-- what stands twice counts once
locals_once : locals_step (near_net ∷ near_net ∷ many_nets 63) [] ≡ locals_done Set (many_nets 63 ++ near_net ∷ [])
unfolding binds_compute
locals_once = refl

-- ---- Names

abbrev named : ℕ → NameRow
named until = record { name = test_name; addrs = (test_addr, until) ∷ [] }

first_seen : observe_step test_name test_addr 60 1000 [] ≡ observed New 1060 (named 1060 ∷ [])
unfolding binds_compute
first_seen = refl

-- the expiry that is kept is later
seen_shorter : observe_step test_name test_addr 30 1000 (named 1060 ∷ []) ≡ observed Same 1060 (named 1060 ∷ [])
unfolding binds_compute
seen_shorter = refl

seen_alike : observe_step test_name test_addr 60 1000 (named 1060 ∷ []) ≡ observed Same 1060 (named 1060 ∷ [])
unfolding binds_compute
seen_alike = refl

seen_longer : observe_step test_name test_addr 61 1000 (named 1060 ∷ []) ≡ observed Renewed 1061 (named 1061 ∷ [])
unfolding binds_compute
seen_longer = refl

-- the expiry itself is past: the pair is new
seen_at_end : observe_step test_name test_addr 30 1060 (named 1060 ∷ []) ≡ observed New 1090 (named 1090 ∷ [])
unfolding binds_compute
seen_at_end = refl

-- names stand in the order of their octets
second_name : observe_step (codes "a.example.com") test_addr 60 1000 (named 1060 ∷ []) ≡ observed New 1060 (name_row (codes "a.example.com") ((test_addr, 1060) ∷ []) ∷ named 1060 ∷ [])
unfolding binds_compute
second_name = refl

-- the name's addresses that have ended go with a new one
new_beside_ended : observe_step test_name bulb_addr 60 1060 (named 1060 ∷ []) ≡ observed New 1120 (name_row test_name ((bulb_addr, 1120) ∷ []) ∷ [])
unfolding binds_compute
new_beside_ended = refl

abbrev seen_until : ℕ → ℕ → Addr × ℕ
seen_until until n = (V4 n, until)

-- a name with this many addresses up to 2000
abbrev seen : ℕ → NameRow
seen n = name_row test_name (map (seen_until 2000) (range_with_len 1 n))

last_of_name : observe_step test_name (V4 64) 1000 1000 (seen 63 ∷ []) ≡ observed New 2000 (seen 64 ∷ [])
unfolding binds_compute
last_of_name = refl

too_many_of_name : observe_step test_name test_addr 60 1000 (seen 64 ∷ []) ≡ Err NameFull
unfolding binds_compute
too_many_of_name = refl

-- one of the 64 has ended
one_has_ended : observe_step test_name test_addr 60 1000 (name_row test_name ((V4 0, 1000) ∷ map (seen_until 2000) (range_with_len 1 63)) ∷ []) ≡ observed New 1060 (name_row test_name (map (seen_until 2000) (range_with_len 1 63) ++ (test_addr, 1060) ∷ []) ∷ [])
unfolding binds_compute
one_has_ended = refl

-- a name that isn't kept, where 4,096 are: it is refused where each of them has a live address
no_room_for_name : (name : List ℕ) (a : Addr) (ttl now : ℕ) (names : List NameRow) → name_at name names ≡ None → nat_le 4096 (length names) ≡ true → least_dead now names ≡ None → observe_step name a ttl now names ≡ Err NamesFull
unfolding observe_step observe_row addrs_of expiry_of new_pair replacing
no_room_for_name name a ttl now names unknown full none = rw (unknown, full, none) refl

-- else it takes the place of the least that has none
room_of_dead : replacing test_name test_addr 1060 (name_row (codes "a.example.com") ((bulb_addr, 900) ∷ []) ∷ []) (Some (name_row (codes "a.example.com") ((bulb_addr, 900) ∷ []))) ≡ observed New 1060 (named 1060 ∷ [])
unfolding binds_compute
room_of_dead = refl

least_of_dead : least_dead 1000 (name_row (codes "a") ((bulb_addr, 1001) ∷ []) ∷ name_row (codes "b") ((bulb_addr, 1000) ∷ []) ∷ name_row (codes "c") ((bulb_addr, 900) ∷ []) ∷ []) ≡ Some (name_row (codes "b") ((bulb_addr, 1000) ∷ []))
unfolding binds_compute
least_of_dead = refl
