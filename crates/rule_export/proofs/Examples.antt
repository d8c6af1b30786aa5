-- The networks of entries that are written out, by what Python's `ipaddress` says of which network holds which.
use Rattle.std.proofs.Common.{◌≡◌, List, [], ◌∷◌, None, refl}
use Rattle.std.specs.Prelude.{⊤}
use Rattle.mud_base.specs.declared.addr.Addr.TheVariants.{V4, V6}
use Rattle.mud_base.specs.declared.addr.Family.TheVariants as family
use Rattle.mud_base.specs.declared.prefix.Prefix.{Prefix}
use Rattle.base_rows.specs.Addresses.{addr_sort_key, prefix_sort_key}
use Rattle.acl_model.specs.declared.entry.Selector.{Selector}
use Rattle.acl_model.specs.declared.entry.Selector.TheVariants.{LocalNetworks, Network, MyController}
use Rattle.acl_model.specs.declared.entry.Layer.TheVariants as layer
use Rattle.acl_model.specs.declared.entry.Action.TheVariants.{Accept}
use Rattle.acl_model.specs.declared.entry.Entry.{Entry}
use Rattle.acl_model.proofs.OnLiterals.{acl_on_literals}
use Rattle.rule_export.specs.Networks.{holds_all, common_part, is_local_of, named_by, is_near, has_near, in_order, near_networks, asked_networks}

unfoldable pub networks_compute : ⊤
unfolding acl_on_literals addr_sort_key prefix_sort_key holds_all common_part is_local_of named_by is_near has_near in_order near_networks asked_networks
networks_compute = tt

-- 10.0.0.0/8, 10.1.0.0/16, 10.1.2.0/24, 192.168.0.0/16, 2001:db8::/32
abbrev wide : Prefix
wide = record { addr = V4 0x0A000000; len = 8 }

abbrev middle : Prefix
middle = record { addr = V4 0x0A010000; len = 16 }

abbrev narrow : Prefix
narrow = record { addr = V4 0x0A010200; len = 24 }

abbrev apart : Prefix
apart = record { addr = V4 0xC0A80000; len = 16 }

abbrev other_version : Prefix
other_version = record { addr = V6 0x20010DB8000000000000000000000000; len = 32 }

abbrev asking : List Selector → Entry
asking selectors = record {
  acl = [];
  name = [];
  family = family.V4;
  selectors = selectors;
  own = None;
  protocol = None;
  dscp = None;
  ecn = None;
  length = None;
  ttl = None;
  layer = layer.Any;
  action = Accept;
}

-- the local networks of the version
of_version : near_networks family.V4 (apart ∷ other_version ∷ wide ∷ []) (asking (LocalNetworks ∷ [])) ≡ wide ∷ apart ∷ []
unfolding networks_compute
of_version = refl

of_other_version : near_networks family.V6 (apart ∷ other_version ∷ wide ∷ []) (asking (LocalNetworks ∷ [])) ≡ other_version ∷ []
unfolding networks_compute
of_other_version = refl

-- both selectors are to be met
both_met : near_networks family.V4 (apart ∷ wide ∷ []) (asking (LocalNetworks ∷ Network middle ∷ [])) ≡ middle ∷ []
unfolding networks_compute
both_met = refl

turned_round : near_networks family.V4 (apart ∷ wide ∷ []) (asking (Network middle ∷ LocalNetworks ∷ [])) ≡ middle ∷ []
unfolding networks_compute
turned_round = refl

-- nothing in common
nothing_in_common : near_networks family.V4 (wide ∷ []) (asking (LocalNetworks ∷ Network apart ∷ [])) ≡ []
unfolding networks_compute
nothing_in_common = refl

-- two choices with one common part
each_once : near_networks family.V4 (middle ∷ wide ∷ []) (asking (LocalNetworks ∷ Network narrow ∷ [])) ≡ narrow ∷ []
unfolding networks_compute
each_once = refl

-- by address, and then by length
in_ascending_order : near_networks family.V4 (narrow ∷ apart ∷ middle ∷ []) (asking (LocalNetworks ∷ Network wide ∷ [])) ≡ middle ∷ narrow ∷ []
unfolding networks_compute
in_ascending_order = refl

-- a member selector gives no network
no_near_selector : asked_networks family.V4 (wide ∷ []) (asking (MyController ∷ [])) ≡ None
unfolding networks_compute
no_near_selector = refl
