-- What two changes of a store edit: an approved file whose URL no Thing has, and a lease that goes.
use Rattle.std.proofs.Common.{◌≡◌, ℕ, ◌+◌, List, [], ◌∷◌, ◌++◌, length, Some, None, refl}
use Rattle.std.specs.Prelude.{codes}
use Rattle.mud_base.specs.declared.addr.Addr.{Addr}
use Rattle.mud_base.specs.declared.addr.Addr.TheVariants.{V4}
use Rattle.mud_base.specs.declared.addr.Family.TheVariants as family
use Rattle.mud_base.specs.declared.packet.Direction.TheVariants.{From, To}
use Rattle.acl_model.specs.declared.entry.Selector.TheVariants as asks
use Rattle.acl_model.specs.declared.entry.PortTest.TheVariants as port
use Rattle.acl_model.specs.declared.entry.Layer.TheVariants as layer
use Rattle.acl_model.specs.declared.entry.Action.TheVariants as action
use Rattle.acl_model.specs.declared.entry.Entry.{Entry}
use Rattle.acl_model.specs.declared.binding.MemberKey.TheVariants as of_key
use Rattle.acl_model.specs.declared.binding.Binding.{Binding}
use Rattle.acl_model.specs.Changes.{replaced}
use Rattle.acl_model.specs.Policies.{UrlPolicy}
use Rattle.acl_model.proofs.OnLiterals.{acl_on_literals}
use Rattle.acl_rows.specs.declared.row.Owner.TheVariants.{Url, Default}
use Rattle.acl_rows.specs.declared.row.Row.{Row}
use Rattle.acl_rows.specs.Rows.{for_ever, row, Slots, rows_of}
use Rattle.acl_rows.proofs.OnLiterals.{rows_on_literals}
use Rattle.acl_changes.specs.Patch.{same_row, is_missing, rows_apart}
use Rattle.acl_changes.specs.Touched.{entry_touch, side_touches, holder_touches, binding_touches, touches}
use Rattle.acl_compile.specs.Plans.{slot_set}

abbrev bulb_url : List ℕ
bulb_url = codes "https://lighting.example.com/lightbulb2000"

abbrev switch_url : List ℕ
switch_url = codes "https://lighting.example.com/switch1"

abbrev to_server : Entry
to_server = record { acl = codes "v4fr"; name = codes "cl0-frdev"; family = family.V4; selectors = asks.Name (codes "test.example.com") ∷ []; own = None; protocol = Some 6; dscp = None; ecn = None; length = None; ttl = None; layer = layer.Tcp port.Any (port.Eq 443) (Some From) None; action = action.Accept }

abbrev to_maker : Entry
to_maker = record { acl = codes "v4fr"; name = codes "mfg-frdev"; family = family.V4; selectors = asks.SameManufacturer ∷ []; own = None; protocol = None; dscp = None; ecn = None; length = None; ttl = None; layer = layer.Any; action = action.Accept }

abbrev answers : Entry
answers = record { acl = codes "v4fr"; name = codes "answers"; family = family.V4; selectors = asks.SameManufacturer ∷ []; own = None; protocol = None; dscp = None; ecn = None; length = None; ttl = None; layer = layer.Tcp port.Any port.Any (Some To) None; action = action.Accept }

abbrev bulb : UrlPolicy
bulb = record { url = bulb_url; policy = record { outgoing = to_server ∷ (to_maker ∷ []); incoming = [] } }

abbrev switch : UrlPolicy
switch = record { url = switch_url; policy = record { outgoing = answers ∷ []; incoming = [] } }

abbrev test_addr : Addr
test_addr = V4 3325256711

abbrev bulb_addr : Addr
bulb_addr = V4 3221225994

abbrev dns_addr : Addr
dns_addr = V4 3221226037

abbrev lease : List Binding
lease = record { key = of_key.Host (codes "lighting.example.com"); addr = bulb_addr; until = 87400 } ∷ (record { key = of_key.Model bulb_url; addr = bulb_addr; until = 87400 } ∷ [])

abbrev bindings : List Binding
bindings = replaced [] (record { key = of_key.Name (codes "test.example.com"); addr = test_addr; until = 1060 } ∷ (record { key = of_key.Class (codes "urn:ietf:params:mud:dns"); addr = dns_addr; until = for_ever } ∷ lease)) []

abbrev before : Slots
before = Some bulb ∷ []

abbrev approved : Slots
approved = slot_set (1, Some switch) before

abbrev own_rows : List Row
own_rows = row (Url 0) From bulb_addr 2 87400 ∷ (row (Url 0) From test_addr 1 1060 ∷ [])

abbrev default_rows : List Row
default_rows = row Default From dns_addr 1 for_ever ∷ (row Default To dns_addr 1 for_ever ∷ [])

-- ---- The file of the switch is approved: one row comes, in one step

switch_row : rows_of approved bindings ≡ default_rows ++ (own_rows ++ row (Url 1) From bulb_addr 1 87400 ∷ [])
unfolding rows_on_literals acl_on_literals slot_set
switch_row = refl

one_comes : rows_apart (rows_of before bindings) (rows_of approved bindings) ≡ 1
unfolding rows_on_literals acl_on_literals slot_set same_row is_missing rows_apart
one_comes = refl

-- ---- The lease of the bulb goes: two rows go, and two bindings, in four steps

rows_left : rows_of approved (replaced lease [] bindings) ≡ default_rows ++ row (Url 0) From test_addr 1 1060 ∷ []
unfolding rows_on_literals acl_on_literals slot_set
rows_left = refl

two_go : rows_apart (rows_of approved bindings) (rows_of approved (replaced lease [] bindings)) + length lease ≡ 4
unfolding rows_on_literals acl_on_literals slot_set same_row is_missing rows_apart
two_go = refl

-- just two sort keys are looked at: the second entry of the bulb's file and the first one of the switch's, at its address
two_touched : length (touches approved lease) ≡ 2
unfolding rows_on_literals acl_on_literals slot_set entry_touch side_touches holder_touches binding_touches touches
two_touched = refl
