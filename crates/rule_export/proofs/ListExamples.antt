-- The list of a light bulb's URL over tables that are written out, as RFC 8520 (4.1 to 4.7, 8 and Appendix A) has its entries met.
use Rattle.std.proofs.Common.{◌≡◌, ℕ, List, [], ◌∷◌, map, Option, Some, None, refl}
use Rattle.std.specs.Prelude.{⊤}
use Rattle.mud_base.specs.Addresses.{addr_bits}
use Rattle.mud_base.specs.declared.addr.Addr.{Addr}
use Rattle.mud_base.specs.declared.addr.Addr.TheVariants.{V4}
use Rattle.mud_base.specs.declared.addr.Family.TheVariants as family
use Rattle.mud_base.specs.declared.packet.Direction.TheVariants.{From, To}
use Rattle.mud_base.specs.declared.prefix.Prefix.{Prefix}
use Rattle.acl_model.specs.declared.entry.Selector.{Selector}
use Rattle.acl_model.specs.declared.entry.Selector.TheVariants as asks
use Rattle.acl_model.specs.declared.entry.Layer.TheVariants as layer
use Rattle.acl_model.specs.declared.entry.Action.TheVariants.{Accept}
use Rattle.acl_model.specs.declared.entry.Entry.{Entry}
use Rattle.acl_model.specs.declared.entry.Policy.{Policy}
use Rattle.acl_model.specs.declared.ruling.DefaultRule.TheVariants.{Dns}
use Rattle.table_model.specs.declared.bind.Class.TheVariants.{Uri}
use Rattle.table_model.specs.declared.thing.Thing.{Thing}
use Rattle.table_model.specs.Tables.{Tables}
use Rattle.table_model.proofs.Literals.{switch_addr, bulb_addr, dns_addr, test_addr, bulb_url, dns_class, test_name, bulb, bare_switch}
use Rattle.packet_judge.proofs.OnLiterals.{verdicts_compute}
use Rattle.rule_export.specs.declared.item.RuleNumber.{RuleNumber}
use Rattle.rule_export.specs.declared.item.RuleNumber.TheVariants as rule
use Rattle.rule_export.specs.declared.item.Resolved.{Resolved}
use Rattle.rule_export.specs.Listed.{covers, items_from, item_of, table_addrs, addr_network, is_listed, listed_networks, listed_items, listed_file, listed_of}
use Rattle.rule_export.proofs.Examples.{networks_compute}

unfoldable lists_compute : ⊤
unfolding verdicts_compute networks_compute addr_bits covers items_from table_addrs addr_network is_listed listed_networks listed_items listed_file listed_of
lists_compute = tt

-- ---- The tables: the bulb (192.0.2.10) and a switch of its maker (192.0.2.11) with leases, the DNS server (192.0.2.53), the local
-- network 192.0.2.0/24, and the name's address (198.51.100.7) until 1060

abbrev own_network : Prefix
own_network = record { addr = V4 0xc0000200; len = 24 }

abbrev switch : Thing
switch = record bare_switch { leases = (switch_addr, 87400) ∷ [] }

abbrev tables : Tables
tables = record {
  things = bulb ∷ switch ∷ [];
  classes = record { class = Uri dns_class; addrs = dns_addr ∷ [] } ∷ [];
  locals = own_network ∷ [];
  names = record { name = test_name; addrs = (test_addr, 1060) ∷ [] } ∷ [];
}

-- ---- The file: what it sends to the name, to its maker's Things, to those in the local network, and to any address

abbrev asking : List Selector → Entry
asking selectors = record {
  acl = [];
  name = [];
  family = family.V4;
  selectors = selectors;
  own = None;
  protocol = None;
  dscp = None;
  ecn = None;
  length = None;
  ttl = None;
  layer = layer.Any;
  action = Accept;
}

abbrev policy : Policy
policy = record {
  outgoing = asking (asks.Name test_name ∷ []) ∷ asking (asks.SameManufacturer ∷ []) ∷ asking (asks.LocalNetworks ∷ []) ∷ asking [] ∷ [];
  incoming = asking (asks.Name test_name ∷ asks.LocalNetworks ∷ []) ∷ asking (asks.SameManufacturer ∷ asks.LocalNetworks ∷ []) ∷ [];
}

abbrev item : RuleNumber → ℕ → Option Prefix → Resolved
item r number network = record { rule = r; number = number; network = network }

abbrev alone : Addr → Option Prefix
alone a = Some (record { addr = a; len = 32 })

-- the name's address expires at 1060: before, the first entry has an item, and then none; the items of each entry are
-- counted from 1
before_the_end : map item_of (listed_of tables 1059 bulb_url family.V4 (Some policy) From)
    ≡ item (rule.File 1) 1 (alone test_addr)
    ∷ item (rule.File 2) 1 (alone bulb_addr)
    ∷ item (rule.File 2) 2 (alone switch_addr)
    ∷ item (rule.File 3) 1 (Some own_network)
    ∷ item (rule.File 4) 1 None
    ∷ item (rule.Default Dns) 1 (alone dns_addr)
    ∷ []
unfolding lists_compute
before_the_end = refl

at_the_end : map item_of (listed_of tables 1060 bulb_url family.V4 (Some policy) From)
    ≡ item (rule.File 2) 1 (alone bulb_addr)
    ∷ item (rule.File 2) 2 (alone switch_addr)
    ∷ item (rule.File 3) 1 (Some own_network)
    ∷ item (rule.File 4) 1 None
    ∷ item (rule.Default Dns) 1 (alone dns_addr)
    ∷ []
unfolding lists_compute
at_the_end = refl

-- each selector is to be met: the name's address isn't local, the maker's Things are
both_met : map item_of (listed_of tables 1059 bulb_url family.V4 (Some policy) To)
    ≡ item (rule.File 2) 1 (alone bulb_addr)
    ∷ item (rule.File 2) 2 (alone switch_addr)
    ∷ item (rule.Default Dns) 1 (alone dns_addr)
    ∷ []
unfolding lists_compute
both_met = refl

-- no entry of the file is for IPv6, and the DNS server has no IPv6 address
of_other_version : map item_of (listed_of tables 1059 bulb_url family.V6 (Some policy) From) ≡ []
unfolding lists_compute
of_other_version = refl

-- without a file the default entries are all
without_file : map item_of (listed_of tables 1059 bulb_url family.V4 None From) ≡ item (rule.Default Dns) 1 (alone dns_addr) ∷ []
unfolding lists_compute
without_file = refl
