-- The two entries that stand behind those of every file (RFC 8520, Appendix A).
use Rattle.std.specs.Prelude.{ℕ, List, [], ◌∷◌, None, codes}
use Rattle.mud_base.specs.declared.addr.Family.TheVariants as family
use Rattle.mud_base.specs.declared.packet.Direction.{Direction}
use Rattle.mud_base.specs.declared.packet.Direction.TheVariants.{From, To}
use Rattle.acl_model.specs.declared.entry.Selector.TheVariants as asks
use Rattle.acl_model.specs.declared.entry.PortTest.TheVariants as port
use Rattle.acl_model.specs.declared.entry.Layer.{Layer}
use Rattle.acl_model.specs.declared.entry.Layer.TheVariants as layer
use Rattle.acl_model.specs.declared.entry.Action.TheVariants as action
use Rattle.acl_model.specs.declared.entry.Entry.{Entry}
use Rattle.acl_model.specs.declared.entry.Policy.{Policy}
use Rattle.acl_model.specs.declared.ruling.DefaultRule.{DefaultRule}
use Rattle.acl_model.specs.declared.ruling.DefaultRule.TheVariants.{Dns, Ntp}

unfoldable pub default_class : DefaultRule → List ℕ
default_class Dns = codes "urn:ietf:params:mud:dns"
default_class Ntp = codes "urn:ietf:params:mud:ntp"

unfoldable pub default_port : DefaultRule → ℕ
default_port Dns = 53
default_port Ntp = 123

-- the port is at the peer's side
unfoldable pub default_layer : ℕ → Direction → Layer
default_layer n From = layer.Udp port.Any (port.Eq n)
default_layer n To = layer.Udp (port.Eq n) port.Any

unfoldable pub default_entry : DefaultRule → Direction → Entry
default_entry which side = record {
  acl = [];
  name = [];
  family = family.Both;
  selectors = asks.Controller (default_class which) ∷ [];
  own = None;
  protocol = None;
  dscp = None;
  ecn = None;
  length = None;
  ttl = None;
  layer = default_layer (default_port which) side;
  action = action.Accept;
}

abbrev pub defaults_of : Direction → List Entry
defaults_of side = default_entry Dns side ∷ default_entry Ntp side ∷ []

-- the defaults of both sides
abbrev pub default_policy : Policy
default_policy = record { outgoing = defaults_of From; incoming = defaults_of To }
