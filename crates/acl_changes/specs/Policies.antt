-- Policies that are held.
use Rattle.std.specs.Prelude.{◌≡◌, ℕ, ◌≤◌, List, length, Some}
use Rattle.mud_base.specs.declared.packet.Direction.{Direction}
use Rattle.acl_model.specs.declared.entry.Policy.{Policy}
use Rattle.acl_model.specs.FirstMatch.{entries_of}
use Rattle.acl_model.specs.Policies.{UrlPolicy}
use Rattle.acl_rows.specs.declared.row.Owner.{Owner}
use Rattle.acl_rows.specs.Rows.{Slots, Holder, held_by}
use Rattle.acl_rows.specs.View.{wide_from}
use Rattle.mud_url.specs.Url.{host_of}
use Rattle.acl_changes.specs.declared.group.KeyEntries.{KeyEntries}
use Rattle.acl_changes.specs.Spots.{policy_spots, spots_in}

-- the entries of each side can be counted
abbrev pub HasCounts : Policy → Type 0
HasCounts policy = (side : Direction) → length (entries_of side policy) ≤ 65535

-- the numbers of the wide entries of a policy, whose lists can be counted
pub record HasWide (policy : Policy) (outgoing : List ℕ) (incoming : List ℕ) : Type 0 where
  pub outgoing_is : outgoing ≡ wide_from 1 policy.outgoing
  pub incoming_is : incoming ≡ wide_from 1 policy.incoming
  pub outgoing_counts : length policy.outgoing ≤ 65535
  pub incoming_counts : length policy.incoming ≤ 65535

-- it holds of each policy of the table and of the defaults
abbrev pub AllHeld : Slots → (Holder → Type 0) → Type 0
AllHeld slots P = (owner : Owner) (held : UrlPolicy) → held_by slots owner ≡ Some held → P (owner, held)

-- the index of a policy, in the file of this URL, by the keys of its member selectors
abbrev pub IsIndexOf : List ℕ → Policy → List KeyEntries → Type 0
IsIndexOf url policy keys = (p : List ℕ) → spots_in keys p ≡ policy_spots url policy p

-- the host of the URL, and the index of the policy
pub record HasItsKeys (url host : List ℕ) (policy : Policy) (keys : List KeyEntries) : Type 0 where
  pub host_is : host ≡ host_of url
  pub keys_are : IsIndexOf url policy keys
