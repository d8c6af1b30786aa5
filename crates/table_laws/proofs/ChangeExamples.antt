-- Which bindings go and come with a change of rows.
use Rattle.std.proofs.Common.{◌≡◌, [], ◌∷◌, Some, None, refl}
use Rattle.std.specs.Prelude.{codes}
use Rattle.mud_url.specs.Url.{host_of, host_part, authority}
use Rattle.acl_model.specs.declared.binding.MemberKey.TheVariants.{Host, Model}
use Rattle.acl_model.specs.Keys.{same_key}
use Rattle.table_model.specs.declared.thing.Thing.{Thing}
use Rattle.table_model.specs.Things.{mac_of}
use Rattle.table_model.specs.Bindings.{binding, bindings_of_lease, thing_bindings}
use Rattle.base_rows.specs.Changes.{RowChange, changed, sort_keys_of, old_rows}
use Rattle.acl_model.specs.Changes.{same_spot, same_binding, has_binding, those_not_in}
use Rattle.table_model.specs.BindingChanges.{gone_of, come_of}
use Rattle.table_model.specs.ThingChanges.{released_holders, leased, new_lease_change, kept_lease_change}
use Rattle.table_model.proofs.Literals.{things_compute, bulb_addr, bulb_url, switch_url, next_url, bulb, bare_switch}

unfoldable pub changes_compute : Unit {0}
unfolding things_compute same_key bindings_of_lease thing_bindings same_spot same_binding has_binding those_not_in changed sort_keys_of old_rows gone_of come_of released_holders leased new_lease_change kept_lease_change
changes_compute = tt

-- the switch gets the address of the bulb with the same expiry: the host, that of both, keeps it
taken : RowChange Thing
taken = new_lease_change bulb_addr 87400 1000 (bulb ∷ bare_switch ∷ []) bare_switch

host_stays-gone : gone_of mac_of thing_bindings taken (bulb ∷ bare_switch ∷ []) ≡ binding (Model bulb_url) bulb_addr 87400 ∷ []
unfolding changes_compute taken host_of host_part authority
host_stays-gone = refl

host_stays-come : come_of mac_of thing_bindings taken (bulb ∷ bare_switch ∷ []) ≡ binding (Model switch_url) bulb_addr 87400 ∷ []
unfolding changes_compute taken host_of host_part authority
host_stays-come = refl

-- a URL that waits changes no binding, and a move within its host the model alone
waits : RowChange Thing
waits = record { gone = None; sets = record bulb { pending = Some next_url } ∷ [] }

waits-gone : gone_of mac_of thing_bindings waits (bulb ∷ bare_switch ∷ []) ≡ []
unfolding changes_compute waits host_of host_part authority
waits-gone = refl

moves : RowChange Thing
moves = record { gone = None; sets = record bulb { url = next_url } ∷ [] }

moves-come : come_of mac_of thing_bindings moves (bulb ∷ bare_switch ∷ []) ≡ binding (Model next_url) bulb_addr 87400 ∷ []
unfolding changes_compute moves host_of host_part authority
moves-come = refl

-- the bulb goes
goes : RowChange Thing
goes = record { gone = Some (mac_of bulb); sets = [] }

goes-gone : gone_of mac_of thing_bindings goes (bulb ∷ bare_switch ∷ []) ≡ binding (Host (codes "lighting.example.com")) bulb_addr 87400 ∷ binding (Model bulb_url) bulb_addr 87400 ∷ []
unfolding changes_compute goes host_of host_part authority
goes-gone = refl

-- a renewed lease goes with its old expiry and comes with the new one
renews : RowChange Thing
renews = kept_lease_change bulb_addr 90000 bulb 87400

renews-gone : gone_of mac_of thing_bindings renews (bulb ∷ bare_switch ∷ []) ≡ binding (Host (codes "lighting.example.com")) bulb_addr 87400 ∷ binding (Model bulb_url) bulb_addr 87400 ∷ []
unfolding changes_compute renews host_of host_part authority
renews-gone = refl

renews-come : come_of mac_of thing_bindings renews (bulb ∷ bare_switch ∷ []) ≡ binding (Host (codes "lighting.example.com")) bulb_addr 90000 ∷ binding (Model bulb_url) bulb_addr 90000 ∷ []
unfolding changes_compute renews host_of host_part authority
renews-come = refl
