-- Usage files (RFC 8520): what one means, or the first rule that it breaks.
use Rattle.std.specs.Prelude.{ℕ, nat_lt, List, [], length, Option, Some, None, Result, Ok, Err, if◌then◌else◌}
use Rattle.mud_base.specs.declared.packet.Direction.{Direction}
use Rattle.mud_base.specs.declared.packet.Direction.TheVariants.{From, To}
use Rattle.acl_model.specs.declared.entry.Policy.{Policy}
use Rattle.serde_json.specs.Data.{Data}
use Rattle.usage_walk.specs.declared.fault.Broken.{Broken}
use Rattle.usage_walk.specs.declared.fault.Rule.TheVariants as rule
use Rattle.usage_walk.specs.declared.member.Member.{Member}
use Rattle.usage_walk.specs.declared.member.Member.TheVariants as members
use Rattle.mud_base.specs.Readings.{answer, and_then, done, ◌>>=◌}
use Rattle.usage_walk.specs.Reading.{Reading, under, fault_at}
use Rattle.usage_walk.specs.Json.{value_in}
use Rattle.usage_walk.specs.Kinds.{object_of, object_at, object_where_there, list_where_there}
use Rattle.usage_walk.specs.Named.{Element, elements_of}
use Rattle.mud_file.specs.declared.usage_file.Head.{Head}
use Rattle.mud_file.specs.declared.usage_file.UsageFile.{UsageFile}
use Rattle.mud_file.specs.Head.{head_at}
use Rattle.mud_file.specs.Entries.{entries_of}

-- the objects with names in the list that this member is
unfoldable pub named_in : List ℕ → Member → Option Data → Reading (List Element)
named_in path member parent = do
  list ← list_where_there path member parent
  elements_of (under path member) list

-- ---- The names of access lists that a policy has

unfoldable pub policy_member : Direction → Member
policy_member From = members.FromDevicePolicy
policy_member To = members.ToDevicePolicy

-- where the names of the policy stand, in the object at this path
unfoldable pub names_path : Direction → List ℕ → List ℕ
names_path side path = under (under (under path (policy_member side)) members.AccessLists) members.AccessList

-- the names in the policy at this path; what is absent names none
unfoldable pub policy_names : List ℕ → Option Data → Reading (List Element)
policy_names path policy = do
  lists ← object_where_there path members.AccessLists policy
  named_in (under path members.AccessLists) members.AccessList lists

unfoldable pub names_at : Direction → List ℕ → Data → Reading (List Element)
names_at side path mud = do
  policy ← object_where_there path (policy_member side) (Some mud)
  policy_names (under path (policy_member side)) policy

-- ---- The whole file

-- the access lists, whether a policy names them or not
unfoldable pub acls_at : Data → Reading (List Element)
acls_at root = do
  acls ← object_where_there [] members.Acls (Some root)
  named_in (under [] members.Acls) members.Acl acls

-- the entries of both directions
unfoldable pub policy_at : Data → List ℕ → Data → Reading Policy
policy_at root path mud = do
  from ← names_at From path mud
  to ← names_at To path mud
  acls ← acls_at root
  outgoing ← entries_of From (names_path From path) acls from
  incoming ← entries_of To (names_path To path) acls to
  done (record { outgoing = outgoing; incoming = incoming })

unfoldable pub with_policy : Head → Policy → UsageFile
with_policy head policy = record {
  url = head.url;
  update = head.update;
  hours = head.hours;
  supported = head.supported;
  signature = head.signature;
  extensions = head.extensions;
  policy = policy;
}

-- what the object `ietf-mud:mud` at this path means in its file
unfoldable pub mud_at : Data → List ℕ → Data → Reading UsageFile
mud_at root path mud = do
  head ← head_at path mud
  policy ← policy_at root path mud
  done (with_policy head policy)

unfoldable pub file_at : Data → Reading UsageFile
file_at d = do
  root ← object_of [] d
  mud ← object_at [] members.Mud root
  mud_at root (under [] members.Mud) mud

abbrev pub as_json : Option Data → Result Data Broken
as_json None = Err (fault_at rule.Json [])
as_json (Some d) = Ok d

-- The usage file that the octets are, or the first rule that they break.
unfoldable pub file_of : List ℕ → Result UsageFile Broken
file_of octets =
    if nat_lt most_octets (length octets) then Err (fault_at rule.TooLong [])
    else and_then (as_json (value_in octets)) (λ d. answer (file_at d))
  where
    -- the most octets of a usage file
    most_octets : ℕ
    most_octets = 262144
