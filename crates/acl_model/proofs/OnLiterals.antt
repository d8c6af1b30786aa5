-- What a proof unfolds to compute keys, matches and rulings at entries and packets that are written out.
use Rattle.std.specs.Prelude.{⊤}
use Rattle.mud_base.specs.Addresses.{prefix_holds}
use Rattle.mud_url.specs.Url.{authority, host_part, host_of}
use Rattle.acl_model.specs.Keys.{is_member, is_membered, key_of, same_key, has_key}
use Rattle.acl_model.specs.Match.{peer_of, own_of, is_in_family, family_matches, prefix_passes, number_passes, header_matches, port_passes, begun_passes, layer_matches, rest_matches, is_local, near_met, near_matches, entry_matches}
use Rattle.acl_model.specs.Defaults.{default_class, default_port, default_layer, default_entry}
use Rattle.acl_model.specs.FirstMatch.{entries_of, ruled_by, default_ruling, ruling_by}
use Rattle.acl_model.specs.Policies.{policy_in}

unfoldable pub acl_on_literals : ⊤
unfolding prefix_holds authority host_part host_of is_member is_membered key_of same_key has_key peer_of own_of is_in_family family_matches prefix_passes number_passes header_matches port_passes begun_passes layer_matches rest_matches is_local near_met near_matches entry_matches default_class default_port default_layer default_entry entries_of ruled_by default_ruling ruling_by policy_in
acl_on_literals = tt
