-- Usage files, worked out.
use Rattle.std.proofs.Common.{◌≡◌, ℕ, pos, true, List, [], ◌∷◌, ◌++◌, Some, None, Ok, Err, Result, map, replicate, refl}
use Rattle.std.specs.Prelude.{codes}
use Rattle.mud_base.specs.declared.addr.Family.TheVariants as family
use Rattle.mud_base.specs.declared.packet.Direction.TheVariants.{From, To}
use Rattle.mud_url.specs.declared.fault.UrlFault.TheVariants as url_fault
use Rattle.acl_model.specs.declared.entry.Layer.TheVariants as layer
use Rattle.acl_model.specs.declared.entry.Selector.TheVariants as asks
use Rattle.acl_model.specs.declared.entry.Action.TheVariants as action
use Rattle.acl_model.specs.declared.entry.Entry.{Entry}
use Rattle.serde_json.specs.Data.{Data, null, boolean, string}
use Rattle.usage_walk.specs.declared.fault.Broken.{Broken}
use Rattle.usage_walk.specs.declared.fault.Rule.TheVariants as rule
use Rattle.usage_walk.specs.Named.{Element}
use Rattle.mud_base.specs.Readings.{answer}
use Rattle.usage_walk.specs.Reading.{fault_at}
use Rattle.usage_walk.proofs.Written.{num, list, obj}
use Rattle.usage_match.specs.declared.entry_tests.ListType.TheVariants.{Ipv4, Ipv6}
use Rattle.mud_file.specs.Head.{head_at}
use Rattle.mud_file.specs.Entries.{ListHead, entries_in, next_list}
use Rattle.mud_file.specs.File.{file_at, file_of}
use Rattle.mud_file.proofs.OnLiterals.{file_on_literals}
use Rattle.mud_file.proofs.Parts.{type_in, action_in}

abbrev txt : List ℕ → Data
txt s = string s

abbrev Fields : Type 0
Fields = List (List ℕ × Data)

-- ---- Identities

types : map type_in (codes "ipv4-acl-type" ∷ codes "ipv6-acl-type" ∷ codes "ietf-access-control-list:ipv6-acl-type" ∷ codes "eth-acl-type" ∷ codes "ipv4" ∷ [])
    ≡ Some Ipv4 ∷ Some Ipv6 ∷ Some Ipv6 ∷ None ∷ None ∷ []
unfolding file_on_literals
types = refl

actions : map action_in (codes "accept" ∷ codes "drop" ∷ codes "reject" ∷ codes "ietf-access-control-list:accept" ∷ codes "pass" ∷ [])
    ≡ Some action.Accept ∷ Some action.Drop ∷ Some action.Drop ∷ Some action.Accept ∷ None ∷ []
unfolding file_on_literals
actions = refl

-- ---- What a file says of itself

abbrev head_fields : Data → Data → Data → Fields → Fields
head_fields version url update more = (codes "mud-version", version) ∷ (codes "mud-url", url) ∷ (codes "last-update", update) ∷ (codes "is-supported", boolean true) ∷ more

abbrev good_head : Fields → Data
good_head more = obj (head_fields (num 1) (txt (codes "https://A")) (txt (codes "1970-01-02T00:00:00Z")) more)

least_head : answer (head_at [] (good_head [])) ≡ Ok (record { url = codes "https://a/"; update = pos 86400; hours = 48; supported = true; signature = None; extensions = [] })
unfolding file_on_literals
least_head = refl

full_head : answer (head_at [] (good_head ((codes "cache-validity", num 168) ∷ (codes "mud-signature", txt (codes "s")) ∷ (codes "documentation", txt (codes "d")) ∷ (codes "extensions", list (txt (codes "x") ∷ txt (codes "y") ∷ [])) ∷ [])))
    ≡ Ok (record { url = codes "https://a/"; update = pos 86400; hours = 168; supported = true; signature = Some (codes "s"); extensions = codes "x" ∷ codes "y" ∷ [] })
unfolding file_on_literals
full_head = refl

version_0 : answer (head_at [] (obj (head_fields (num 0) null null []))) ≡ Err (fault_at rule.Version (codes "/mud-version"))
unfolding file_on_literals
version_0 = refl

url_before_update : answer (head_at [] (obj (head_fields (num 1) (txt (codes "http://a/")) null []))) ≡ Err (record { rule = rule.Url; path = codes "/mud-url"; url = Some url_fault.Scheme })
unfolding file_on_literals
url_before_update = refl

update_as_number : answer (head_at [] (obj (head_fields (num 1) (txt (codes "https://a/")) (num 0) []))) ≡ Err (fault_at rule.WrongKind (codes "/last-update"))
unfolding file_on_literals
update_as_number = refl

no_hours : answer (head_at [] (good_head ((codes "cache-validity", num 0) ∷ []))) ≡ Err (fault_at rule.Validity (codes "/cache-validity"))
unfolding file_on_literals
no_hours = refl

hours_169 : answer (head_at [] (good_head ((codes "cache-validity", num 169) ∷ []))) ≡ Err (fault_at rule.Validity (codes "/cache-validity"))
unfolding file_on_literals
hours_169 = refl

model_before_rev : answer (head_at [] (good_head ((codes "firmware-rev", null) ∷ (codes "model-name", null) ∷ []))) ≡ Err (fault_at rule.WrongKind (codes "/model-name"))
unfolding file_on_literals
model_before_rev = refl

-- ---- Entries, where so many may stand

abbrev entry_value : List ℕ → Data
entry_value name = obj ((codes "name", txt name) ∷ (codes "actions", obj ((codes "forwarding", txt (codes "drop")) ∷ [])) ∷ [])

-- an entry of the list `l` that tests nothing
abbrev plain : List ℕ → Entry
plain name = record {
  acl = codes "l";
  name = name;
  family = family.V6;
  selectors = [];
  own = None;
  protocol = None;
  dscp = None;
  ecn = None;
  length = None;
  ttl = None;
  layer = layer.Any;
  action = action.Drop;
}

abbrev head_with_room : ℕ → ListHead
head_with_room room = record { type = Ipv6; side = To; path = codes "/ace"; name = codes "l"; room = room }

abbrev three : List Data
three = entry_value (codes "a") ∷ entry_value (codes "b") ∷ entry_value (codes "c") ∷ []

room_for_three : answer (entries_in (head_with_room 3) three) ≡ Ok (plain (codes "a") ∷ plain (codes "b") ∷ plain (codes "c") ∷ [])
unfolding file_on_literals
room_for_three = refl

room_for_two : answer (entries_in (head_with_room 2) three) ≡ Err (fault_at rule.EntriesFull (codes "/ace/2"))
unfolding file_on_literals
room_for_two = refl

kind_before_full : answer (entries_in (head_with_room 0) (null ∷ [])) ≡ Err (fault_at rule.WrongKind (codes "/ace/0"))
unfolding file_on_literals
kind_before_full = refl

full_before_name : answer (entries_in (head_with_room 0) (obj [] ∷ [])) ≡ Err (fault_at rule.EntriesFull (codes "/ace/0"))
unfolding file_on_literals
full_before_name = refl

name_again : answer (entries_in (head_with_room 3) (entry_value (codes "a") ∷ entry_value (codes "a") ∷ [])) ≡ Err (fault_at rule.RepeatedName (codes "/ace/1/name"))
unfolding file_on_literals
name_again = refl

name_before_matches : answer (entries_in (head_with_room 1) (obj ((codes "matches", null) ∷ []) ∷ [])) ≡ Err (fault_at rule.Missing (codes "/ace/0/name"))
unfolding file_on_literals
name_before_matches = refl

no_actions : answer (entries_in (head_with_room 1) (obj ((codes "name", txt (codes "a")) ∷ []) ∷ [])) ≡ Err (fault_at rule.Missing (codes "/ace/0/actions"))
unfolding file_on_literals
no_actions = refl

-- an access list of two entries behind 126 and 127 of the direction
abbrev list_value : Data
list_value = obj ((codes "name", txt (codes "l")) ∷ (codes "type", txt (codes "ipv6-acl-type")) ∷ (codes "aces", obj ((codes "ace", list (entry_value (codes "a") ∷ entry_value (codes "b") ∷ [])) ∷ [])) ∷ [])

abbrev the_list : Element
the_list = record { index = 3; name = codes "l"; value = list_value }

abbrev the_name : Element
the_name = record { index = 1; name = codes "l"; value = null }

abbrev behind : ℕ → Result (List Entry) Broken
behind count = answer (next_list From [] (the_list ∷ []) (replicate count (plain (codes "z"))) the_name)

entry_128 : behind 126 ≡ Ok (replicate 126 (plain (codes "z")) ++ plain (codes "a") ∷ plain (codes "b") ∷ [])
unfolding file_on_literals
entry_128 = refl

entry_129 : behind 127 ≡ Err (fault_at rule.EntriesFull (codes "/ietf-access-control-list:acls/acl/3/aces/ace/1"))
unfolding file_on_literals
entry_129 = refl

no_list : answer (next_list From (codes "/p") [] [] the_name) ≡ Err (fault_at rule.NoSuchAcl (codes "/p/1/name"))
unfolding file_on_literals
no_list = refl

-- ---- A whole file: a list for each direction

abbrev names_of : List ℕ → Data
names_of name = obj ((codes "access-lists", obj ((codes "access-list", list (obj ((codes "name", txt name) ∷ []) ∷ [])) ∷ [])) ∷ [])

abbrev acl_value : List ℕ → List ℕ → Data → Data
acl_value name type entry = obj ((codes "name", txt name) ∷ (codes "type", txt type) ∷ (codes "aces", obj ((codes "ace", list (entry ∷ [])) ∷ [])) ∷ [])

abbrev from_value : Data
from_value = obj ((codes "name", txt (codes "e")) ∷ (codes "matches", obj ((codes "ietf-mud:mud", obj ((codes "same-manufacturer", list (null ∷ [])) ∷ [])) ∷ [])) ∷ (codes "actions", obj ((codes "forwarding", txt (codes "accept")) ∷ [])) ∷ [])

abbrev file_value : Data
file_value = obj ((codes "ietf-mud:mud", good_head ((codes "from-device-policy", names_of (codes "f")) ∷ (codes "to-device-policy", names_of (codes "l")) ∷ []))
    ∷ (codes "ietf-access-control-list:acls", obj ((codes "acl", list (acl_value (codes "l") (codes "ipv6-acl-type") (entry_value (codes "a")) ∷ acl_value (codes "f") (codes "ipv4-acl-type") from_value ∷ [])) ∷ [])) ∷ [])

abbrev from_entry : Entry
from_entry = record {
  acl = codes "f";
  name = codes "e";
  family = family.V4;
  selectors = asks.SameManufacturer ∷ [];
  own = None;
  protocol = None;
  dscp = None;
  ecn = None;
  length = None;
  ttl = None;
  layer = layer.Any;
  action = action.Accept;
}

whole_file : answer (file_at file_value) ≡ Ok (record {
  url = codes "https://a/";
  update = pos 86400;
  hours = 48;
  supported = true;
  signature = None;
  extensions = [];
  policy = record { outgoing = from_entry ∷ []; incoming = plain (codes "a") ∷ [] };
})
unfolding file_on_literals
whole_file = refl

-- ---- Texts

not_json : file_of (codes "{") ≡ Err (fault_at rule.Json [])
unfolding file_on_literals
not_json = refl

not_object : file_of (codes "[]") ≡ Err (fault_at rule.WrongKind [])
unfolding file_on_literals
not_object = refl

no_mud : file_of (codes "{\"a\":1}") ≡ Err (fault_at rule.Missing (codes "/ietf-mud:mud"))
unfolding file_on_literals
no_mud = refl

mud_as_list : file_of (codes "{\"ietf-mud:mud\":[]}") ≡ Err (fault_at rule.WrongKind (codes "/ietf-mud:mud"))
unfolding file_on_literals
mud_as_list = refl

no_version : file_of (codes "{\"ietf-mud:mud\":{}}") ≡ Err (fault_at rule.Missing (codes "/ietf-mud:mud/mud-version"))
unfolding file_on_literals
no_version = refl
