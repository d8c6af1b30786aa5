-- Rulings on the packets of a light bulb and a switch of one maker.
use Rattle.std.proofs.Common.{◌≡◌, ℕ, true, false, [], ◌∷◌, Some, None, refl}
use Rattle.std.specs.Prelude.{codes}
use Rattle.mud_base.specs.Addresses.{prefix_holds}
use Rattle.mud_base.specs.declared.addr.Addr.TheVariants.{V4}
use Rattle.mud_base.specs.declared.addr.Family.TheVariants as family
use Rattle.mud_base.specs.declared.packet.Direction.TheVariants.{From, To}
use Rattle.mud_base.specs.declared.packet.Fields.{Fields}
use Rattle.mud_base.specs.declared.packet.Transport.TheVariants as packet
use Rattle.mud_url.specs.Url.{authority, host_part, host_of}
use Rattle.acl_model.specs.declared.entry.Selector.TheVariants as asks
use Rattle.acl_model.specs.declared.entry.PortTest.TheVariants as port
use Rattle.acl_model.specs.declared.entry.Layer.TheVariants as layer
use Rattle.acl_model.specs.declared.entry.Action.TheVariants as action
use Rattle.acl_model.specs.declared.entry.Entry.{Entry}
use Rattle.acl_model.specs.declared.entry.Policy.{Policy}
use Rattle.acl_model.specs.declared.ruling.DefaultRule.TheVariants.{Dns}
use Rattle.acl_model.specs.declared.ruling.Why.TheVariants.{NoFile, NoMatch}
use Rattle.acl_model.specs.declared.ruling.Ruling.TheVariants.{Accept, AcceptDefault, Drop, DropDefault}
use Rattle.acl_model.specs.Defaults.{default_class, default_port, default_layer, default_entry}
use Rattle.acl_model.specs.FirstMatch.{entries_of, ruled_by, default_ruling, ruling_by}
use Rattle.acl_model.specs.Match.{peer_of, own_of, is_in_family, family_matches, prefix_passes, number_passes, header_matches, port_passes, begun_passes, layer_matches, rest_matches, is_local, near_met, near_matches, entry_matches}
use Rattle.table_model.specs.declared.bind.Class.TheVariants.{Uri, Mine}
use Rattle.table_model.specs.declared.bind.ClassRow.{ClassRow}
use Rattle.table_model.specs.declared.bind.NameRow.{NameRow}
use Rattle.table_model.specs.Tables.{Tables, has_host, has_url, is_leased, is_bound, is_named, meets, ruling_of}
use Rattle.table_model.specs.History.{begun_of, with_packet}
use Rattle.table_model.proofs.Literals.{binds_compute, flows_compute, tcp, call, answer, back_call, bulb_addr, switch_addr, dns_addr, test_addr, bulb_url, next_url, switch_url, dns_class, test_name, bulb, bare_bulb, bare_switch}

unfoldable rulings_compute : Unit {0}
unfolding binds_compute prefix_holds authority host_part host_of default_class default_port default_layer default_entry entries_of ruled_by default_ruling ruling_by peer_of own_of is_in_family family_matches prefix_passes number_passes header_matches port_passes begun_passes layer_matches rest_matches is_local near_met near_matches entry_matches has_host has_url is_leased is_bound is_named meets ruling_of
rulings_compute = tt

-- ---- The bulb's file: to its server by HTTPS on a connection that it began, and all that its maker's Things are

abbrev to_server : Entry
to_server = record {
  acl = codes "v4fr";
  name = codes "cl0-frdev";
  family = family.V4;
  selectors = asks.Name test_name ∷ [];
  own = None;
  protocol = Some 6;
  dscp = None;
  ecn = None;
  length = None;
  ttl = None;
  layer = layer.Tcp port.Any (port.Eq 443) (Some From) None;
  action = action.Accept;
}

abbrev to_maker : Entry
to_maker = record {
  acl = codes "v4fr";
  name = codes "mfg-frdev";
  family = family.V4;
  selectors = asks.SameManufacturer ∷ [];
  own = None;
  protocol = None;
  dscp = None;
  ecn = None;
  length = None;
  ttl = None;
  layer = layer.Any;
  action = action.Accept;
}

abbrev from_server : Entry
from_server = record {
  acl = codes "v4to";
  name = codes "cl0-todev";
  family = family.V4;
  selectors = asks.Name test_name ∷ [];
  own = None;
  protocol = Some 6;
  dscp = None;
  ecn = None;
  length = None;
  ttl = None;
  layer = layer.Tcp (port.Eq 443) port.Any (Some From) None;
  action = action.Accept;
}

abbrev bulb_policy : Policy
bulb_policy = record { outgoing = to_server ∷ to_maker ∷ []; incoming = from_server ∷ [] }

-- a file that forbids DNS
abbrev no_dns : Entry
no_dns = record {
  acl = codes "v4fr";
  name = codes "no-dns";
  family = family.V4;
  selectors = [];
  own = None;
  protocol = None;
  dscp = None;
  ecn = None;
  length = None;
  ttl = None;
  layer = layer.Udp port.Any (port.Eq 53);
  action = action.Drop;
}

abbrev strict_policy : Policy
strict_policy = record { outgoing = no_dns ∷ []; incoming = from_server ∷ [] }

-- the switch's file: answers to its maker's Things
abbrev answers : Entry
answers = record {
  acl = codes "v4fr";
  name = codes "answers";
  family = family.V4;
  selectors = asks.SameManufacturer ∷ [];
  own = None;
  protocol = None;
  dscp = None;
  ecn = None;
  length = None;
  ttl = None;
  layer = layer.Tcp port.Any port.Any (Some To) None;
  action = action.Accept;
}

abbrev switch_policy : Policy
switch_policy = record { outgoing = answers ∷ []; incoming = [] }

-- ---- The tables: the bulb with its lease, the class of DNS servers, and the server's name until 1060

abbrev dns_row : ClassRow
dns_row = record { class = Uri dns_class; addrs = dns_addr ∷ [] }

abbrev named : ℕ → NameRow
named until = record { name = test_name; addrs = (test_addr, until) ∷ [] }

abbrev tables : Tables
tables = record { things = bulb ∷ []; classes = dns_row ∷ []; locals = []; names = named 1060 ∷ [] }

-- ---- Packets

-- the bulb asks a DNS server
abbrev question : Fields
question = record { src = bulb_addr; dst = dns_addr; protocol = 17; dscp = 0; ecn = 0; length = 60; ttl = 64; transport = packet.Udp 40000 53 }

-- ---- A name that expires

until_end : ruling_of tables 1059 bulb_url (Some bulb_policy) From call (Some From) ≡ Accept 1
unfolding rulings_compute
until_end = refl

at_end : ruling_of tables 1060 bulb_url (Some bulb_policy) From call (Some From) ≡ DropDefault NoMatch
unfolding rulings_compute
at_end = refl

-- ---- Defaults

dns_without_file : ruling_of tables 1000 bulb_url None From question None ≡ AcceptDefault Dns
unfolding rulings_compute
dns_without_file = refl

dns_forbidden : ruling_of tables 1000 bulb_url (Some strict_policy) From question None ≡ Drop 1
unfolding rulings_compute
dns_forbidden = refl

dns_with_file : ruling_of tables 1000 bulb_url (Some bulb_policy) From question None ≡ AcceptDefault Dns
unfolding rulings_compute
dns_with_file = refl

no_file : ruling_of tables 1059 next_url None From call (Some From) ≡ DropDefault NoFile
unfolding rulings_compute
no_file = refl

-- ---- Who began

call_begins : begun_of [] From call 1001 ≡ Some From
unfolding flows_compute
call_begins = refl

answer_of_call : begun_of (with_packet [] call 1001) To answer 1001 ≡ Some From
unfolding flows_compute
answer_of_call = refl

answer_passes : ruling_of tables 1001 bulb_url (Some bulb_policy) To answer (Some From) ≡ Accept 1
unfolding rulings_compute
answer_passes = refl

back_call_begins : begun_of [] To back_call 1001 ≡ Some To
unfolding flows_compute
back_call_begins = refl

back_call_drops : ruling_of tables 1001 bulb_url (Some bulb_policy) To back_call (Some To) ≡ DropDefault NoMatch
unfolding rulings_compute
back_call_drops = refl

answer_alone : begun_of [] To answer 1001 ≡ None
unfolding flows_compute
answer_alone = refl

answer_alone_drops : ruling_of tables 1001 bulb_url (Some bulb_policy) To answer None ≡ DropDefault NoMatch
unfolding rulings_compute
answer_alone_drops = refl

-- UDP has no beginner
question_begins : begun_of (with_packet [] call 1001) From question 1001 ≡ None
unfolding flows_compute
question_begins = refl

-- ---- Two Things of one maker

abbrev both_tables : Tables
both_tables = record tables { things = bulb ∷ record bare_switch { leases = (switch_addr, 2000) ∷ [] } ∷ [] }

abbrev knock : Fields
knock = tcp bulb_addr 50000 switch_addr 80 2

abbrev reply : Fields
reply = tcp switch_addr 80 bulb_addr 50000 0x12

knock_of_bulb : ruling_of both_tables 1001 bulb_url (Some bulb_policy) From knock (Some From) ≡ Accept 2
unfolding rulings_compute
knock_of_bulb = refl

knock_at_switch : ruling_of both_tables 1001 switch_url (Some switch_policy) To knock (Some To) ≡ DropDefault NoMatch
unfolding rulings_compute
knock_at_switch = refl

-- the knock wasn't forwarded, so nobody began what the reply is part of
reply_of_switch : ruling_of both_tables 1001 switch_url (Some switch_policy) From reply (begun_of [] From reply 1001) ≡ DropDefault NoMatch
unfolding rulings_compute flows_compute
reply_of_switch = refl

reply_at_bulb : ruling_of both_tables 1001 bulb_url (Some bulb_policy) To reply (begun_of [] To reply 1001) ≡ DropDefault NoMatch
unfolding rulings_compute flows_compute
reply_at_bulb = refl

-- ---- A lease that went to another Thing, and expires at 1100: the address is the maker's until then

abbrev moved_tables : Tables
moved_tables = record tables { things = bare_bulb ∷ record bare_switch { leases = (bulb_addr, 1100) ∷ [] } ∷ [] }

abbrev call_to_itself : Fields
call_to_itself = tcp bulb_addr 50000 bulb_addr 443 2

until_lease_ends : ruling_of moved_tables 1099 bulb_url (Some bulb_policy) From call_to_itself (Some From) ≡ Accept 2
unfolding rulings_compute
until_lease_ends = refl

when_lease_ends : ruling_of moved_tables 1100 bulb_url (Some bulb_policy) From call_to_itself (Some From) ≡ DropDefault NoMatch
unfolding rulings_compute
when_lease_ends = refl

-- ---- Each selector

meets_class : meets tables 1000 bulb_url (asks.Controller dns_class) dns_addr ≡ true
unfolding rulings_compute
meets_class = refl

meets_other_class : meets tables 1000 bulb_url asks.MyController dns_addr ≡ false
unfolding rulings_compute
meets_other_class = refl

meets_mine : meets (record tables { classes = record { class = Mine bulb_url; addrs = dns_addr ∷ [] } ∷ [] }) 1000 bulb_url asks.MyController dns_addr ≡ true
unfolding rulings_compute
meets_mine = refl

meets_maker : meets tables 87399 next_url (asks.Manufacturer (codes "lighting.example.com")) bulb_addr ≡ true
unfolding rulings_compute
meets_maker = refl

meets_maker_at_end : meets tables 87400 next_url (asks.Manufacturer (codes "lighting.example.com")) bulb_addr ≡ false
unfolding rulings_compute
meets_maker_at_end = refl

meets_same_maker : meets tables 1000 next_url asks.SameManufacturer bulb_addr ≡ true
unfolding rulings_compute
meets_same_maker = refl

meets_model : meets tables 1000 switch_url (asks.Model bulb_url) bulb_addr ≡ true
unfolding rulings_compute
meets_model = refl

meets_other_model : meets tables 1000 switch_url (asks.Model next_url) bulb_addr ≡ false
unfolding rulings_compute
meets_other_model = refl

meets_name : meets tables 1059 bulb_url (asks.Name test_name) test_addr ≡ true
unfolding rulings_compute
meets_name = refl

meets_local : meets (record tables { locals = record { addr = V4 0xc0000200; len = 24 } ∷ [] }) 1000 bulb_url asks.LocalNetworks bulb_addr ≡ true
unfolding rulings_compute
meets_local = refl

meets_no_local : meets tables 1000 bulb_url asks.LocalNetworks bulb_addr ≡ false
unfolding rulings_compute
meets_no_local = refl

meets_network : meets tables 1000 bulb_url (asks.Network (record { addr = V4 0xc6336400; len = 24 })) test_addr ≡ true
unfolding rulings_compute
meets_network = refl
