-- The access lists of a usage file and their entries (RFC 8520, 3.3; RFC 8519, 4.1).
use Rattle.std.specs.Prelude.{ℕ, Bool, ◌-◌, nat_le, List, [], ◌∷◌, ◌++◌, length, take, drop, codes, bytes_eq, Option, Some, None, if◌then◌else◌}
use Rattle.std.specs.List.{list_any}
use Rattle.mud_base.specs.declared.addr.Family.{Family}
use Rattle.mud_base.specs.declared.addr.Family.TheVariants as family
use Rattle.mud_base.specs.declared.packet.Direction.{Direction}
use Rattle.acl_model.specs.declared.entry.Action.{Action}
use Rattle.acl_model.specs.declared.entry.Action.TheVariants as action
use Rattle.acl_model.specs.declared.entry.Entry.{Entry}
use Rattle.serde_json.specs.Data.{Data, null}
use Rattle.usage_walk.specs.declared.fault.Rule.TheVariants as rule
use Rattle.usage_walk.specs.declared.member.Member.TheVariants as members
use Rattle.mud_base.specs.Readings.{done, ◌>>=◌, wanted, refused_where, over}
use Rattle.usage_walk.specs.Reading.{Reading, under, at_index, fault_at}
use Rattle.usage_walk.specs.Kinds.{object_of, object_at, text_at, object_where_there, list_where_there}
use Rattle.usage_walk.specs.Named.{Element, element_named}
use Rattle.usage_match.specs.declared.entry_tests.ListType.{ListType}
use Rattle.usage_match.specs.declared.entry_tests.ListType.TheVariants.{Ipv4, Ipv6}
use Rattle.usage_match.specs.declared.entry_tests.Tests.{Tests}
use Rattle.usage_match.specs.Matches.{tests_at}

-- ---- Identities: each may carry the prefix of its YANG module (RFC 7951, 6.8)

unfoldable pub module_prefix : List ℕ
module_prefix = codes "ietf-access-control-list:"

unfoldable pub without_module : List ℕ → List ℕ
without_module text = if bytes_eq (take (length module_prefix) text) module_prefix then drop (length module_prefix) text else text

unfoldable pub type_named : List ℕ → Option ListType
type_named name = if bytes_eq name (codes "ipv4-acl-type") then Some Ipv4 else (if bytes_eq name (codes "ipv6-acl-type") then Some Ipv6 else None)

-- `reject` is read as `drop`
unfoldable pub action_named : List ℕ → Option Action
action_named name =
    if bytes_eq name (codes "accept") then Some action.Accept
    else (if bytes_eq name (codes "drop") then Some action.Drop
    else (if bytes_eq name (codes "reject") then Some action.Drop
    else None))

-- ---- Entries

unfoldable pub as_action : List ℕ → List ℕ → Reading Action
as_action path text = wanted action.Drop (fault_at rule.Action (under path members.Forwarding)) (action_named (without_module text))

-- what the actions at this path make of a packet
unfoldable pub action_of : List ℕ → Data → Reading Action
action_of path d = do
  text ← text_at path members.Forwarding d
  as_action path text

-- what becomes of a packet, of the entry at this path
unfoldable pub action_at : List ℕ → Data → Reading Action
action_at path d = do
  actions ← object_at path members.Actions d
  action_of (under path members.Actions) actions

-- an entry's name stands once in its list
unfoldable pub new_entry_name : List ℕ → List Entry → List ℕ → Reading (List ℕ)
new_entry_name path before name = do
  _ ← refused_where (is_entry_named name before) (fault_at rule.RepeatedName (under path members.Name))
  done name
  where
    is_entry_named : List ℕ → List Entry → Bool
    is_entry_named name entries = list_any (λ e. bytes_eq e.name name) entries

unfoldable pub entry_name_at : List ℕ → List Entry → Data → Reading (List ℕ)
entry_name_at path before d = do
  name ← text_at path members.Name d
  new_entry_name path before name

unfoldable pub family_of : ListType → Family
family_of Ipv4 = family.V4
family_of Ipv6 = family.V6

-- the access list that entries stand in: its type, the direction that it is read for, the path of its entries, its
-- name, and how many entries of the direction may stand in it
pub record ListHead : Type 0 where
  pub type : ListType
  pub side : Direction
  pub path : List ℕ
  pub name : List ℕ
  pub room : ℕ

unfoldable pub entry_of : ListHead → List ℕ → Tests → Action → Entry
entry_of list name tests act = record {
  acl = list.name;
  name = name;
  family = family_of list.type;
  selectors = tests.selectors;
  own = tests.own;
  protocol = tests.protocol;
  dscp = tests.dscp;
  ecn = tests.ecn;
  length = tests.length;
  ttl = tests.ttl;
  layer = tests.layer;
  action = act;
}

-- the entry at this path, behind those of its list before it
unfoldable pub entry_at : ListHead → List ℕ → List Entry → Data → Reading Entry
entry_at list path before d = do
  object ← object_of path d
  _ ← refused_where (nat_le list.room (length before)) (fault_at rule.EntriesFull path)
  name ← entry_name_at path before object
  tests ← tests_at list.type list.side path object
  act ← action_at path object
  done (entry_of list name tests act)

-- the entry at this path behind those of its list before it, and these
unfoldable pub with_entry : ListHead → List ℕ → List Entry → Data → Reading (List Entry)
with_entry list path before d = do
  entry ← entry_at list path before d
  done (before ++ entry ∷ [])

unfoldable pub next_entry : ListHead → List Entry → Data → Reading (List Entry)
next_entry list before d = with_entry list (at_index list.path (length before)) before d

unfoldable pub entries_in : ListHead → List Data → Reading (List Entry)
entries_in list ds = over (next_entry list) [] ds

-- ---- Access lists

unfoldable pub type_at : List ℕ → Data → Reading ListType
type_at path d = do
  text ← text_at path members.Kind d
  as_type path text
  where
    as_type : List ℕ → List ℕ → Reading ListType
    as_type path text = wanted Ipv4 (fault_at rule.AclType (under path members.Kind)) (type_named (without_module text))

-- the elements of its list of entries; without one it has none
unfoldable pub aces_at : List ℕ → Data → Reading (List Data)
aces_at path d = do
  aces ← object_where_there path members.Aces (Some d)
  list_where_there (under path members.Aces) members.Ace aces

-- the entries of the access list at this path, in which so many entries of the direction may stand
unfoldable pub list_at : Direction → ℕ → List ℕ → Element → Reading (List Entry)
list_at side room path acl = do
  type ← type_at path acl.value
  list ← aces_at path acl.value
  entries_in (record { type = type; side = side; path = under (under path members.Aces) members.Ace; name = acl.name; room = room }) list

-- ---- The lists that a policy names

-- the access list of this name, which the list of names at this path has
unfoldable pub acl_named : List ℕ → List Element → Element → Reading Element
acl_named path acls name = wanted no_element (fault_at rule.NoSuchAcl (under (at_index path name.index) members.Name)) (element_named name.name acls)
  where
    no_element : Element
    no_element = record { index = 0; name = []; value = null }

-- the most entries of a direction
abbrev pub most_entries : ℕ
most_entries = 128

-- the entries of the direction so far, and those of the list of this name
unfoldable pub next_list : Direction → List ℕ → List Element → List Entry → Element → Reading (List Entry)
next_list side path acls so_far name = do
  acl ← acl_named path acls name
  entries ← list_at side (most_entries - length so_far) (at_index (under (under [] members.Acls) members.Acl) acl.index) acl
  done (so_far ++ entries)

-- all entries of the direction: those of the lists of these names, which stand at this path
unfoldable pub entries_of : Direction → List ℕ → List Element → List Element → Reading (List Entry)
entries_of side path acls names = over (next_list side path acls) [] names
