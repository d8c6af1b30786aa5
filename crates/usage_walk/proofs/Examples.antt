-- Readings of JSON values, worked out.
use Rattle.std.proofs.Common.{◌≡◌, ℕ, true, false, List, [], ◌∷◌, Some, None, Ok, Err, map, refl}
use Rattle.std.specs.Prelude.{codes}
use Rattle.serde_json.specs.Data.{Data, null, boolean, string}
use Rattle.usage_walk.specs.declared.fault.Rule.{Rule}
use Rattle.usage_walk.specs.declared.fault.Rule.TheVariants as rule
use Rattle.usage_walk.specs.declared.member.Member.TheVariants as members
use Rattle.usage_walk.specs.declared.row.Row.{Row}
use Rattle.usage_walk.specs.Names as names
use Rattle.mud_base.specs.Readings.{answer}
use Rattle.usage_walk.specs.Reading.{fault_at, under, at_index, under_name}
use Rattle.usage_walk.specs.Kinds.{text_at, number_at, truth_at, object_at, text_where_there, number_where_there, object_where_there, list_where_there, leaf_where_there}
use Rattle.usage_walk.specs.Named.{elements_of}
use Rattle.usage_walk.specs.Others.{all_known}
use Rattle.usage_walk.specs.Tables.{row}
use Rattle.usage_walk.proofs.OnLiterals.{walk_on_literals}
use Rattle.usage_walk.proofs.Written.{num, list, obj}
use Rattle.usage_walk.proofs.Parts.{is_empty_leaf}

-- ---- Rules, by their numbers

abbrev rules : List Rule
rules =
    rule.TooLong ∷ rule.Json ∷ rule.Missing ∷ rule.WrongKind ∷ rule.Version ∷ rule.Url ∷ rule.Update ∷ rule.Validity
    ∷ rule.NoSuchAcl ∷ rule.AclType ∷ rule.UnknownMatch ∷ rule.TwoLayers ∷ rule.PortRange ∷ rule.NameSide ∷ rule.DirectionNotTcp ∷ rule.Action
    ∷ rule.EntriesFull ∷ rule.NameText ∷ rule.RepeatedName ∷ rule.Family ∷ rule.PrefixText ∷ rule.Range ∷ rule.DirectionText ∷ rule.Operator ∷ rule.FlagText ∷ []

rules_are_numbered : map names.number_of rules ≡ 1 ∷ 2 ∷ 3 ∷ 4 ∷ 5 ∷ 6 ∷ 7 ∷ 8 ∷ 9 ∷ 10 ∷ 11 ∷ 12 ∷ 13 ∷ 14 ∷ 15 ∷ 16 ∷ 17 ∷ 18 ∷ 19 ∷ 20 ∷ 21 ∷ 22 ∷ 23 ∷ 24 ∷ 25 ∷ []
unfolding walk_on_literals
rules_are_numbered = refl

-- ---- Paths (RFC 6901)

member_path : under (codes "/a") members.Acls ≡ codes "/a/ietf-access-control-list:acls"
unfolding walk_on_literals
member_path = refl

index_path : at_index [] 128 ≡ codes "/128"
unfolding walk_on_literals
index_path = refl

escaped_path : under_name (codes "/a") (codes "b~/c") ≡ codes "/a/b~0~1c"
unfolding walk_on_literals
escaped_path = refl

-- ---- Empty leaves

empty_leaves : map is_empty_leaf (null ∷ list (null ∷ []) ∷ list [] ∷ list (null ∷ null ∷ []) ∷ list (num 0 ∷ []) ∷ boolean true ∷ obj [] ∷ []) ≡ true ∷ true ∷ false ∷ false ∷ false ∷ false ∷ false ∷ []
unfolding walk_on_literals
empty_leaves = refl

-- ---- Members, of the object at the path `/a`

abbrev here : List ℕ
here = codes "/a"

abbrev with_port : Data → Data
with_port d = obj ((codes "port", d) ∷ (codes "operator", string (codes "eq")) ∷ [])

text_there : answer (text_at here members.Operator (with_port null)) ≡ Ok (codes "eq")
unfolding walk_on_literals
text_there = refl

text_missing : answer (text_at here members.Name (with_port null)) ≡ Err (fault_at rule.Missing (codes "/a/name"))
unfolding walk_on_literals
text_missing = refl

text_of_other_kind : answer (text_at here members.Port (with_port (num 1))) ≡ Err (fault_at rule.WrongKind (codes "/a/port"))
unfolding walk_on_literals
text_of_other_kind = refl

number_there : answer (number_at here members.Port (with_port (num 443))) ≡ Ok 443
unfolding walk_on_literals
number_there = refl

number_as_text : answer (number_at here members.Port (with_port (string (codes "443")))) ≡ Err (fault_at rule.WrongKind (codes "/a/port"))
unfolding walk_on_literals
number_as_text = refl

truth_there : answer (truth_at here members.Port (with_port (boolean false))) ≡ Ok false
unfolding walk_on_literals
truth_there = refl

truth_as_number : answer (truth_at here members.Port (with_port (num 1))) ≡ Err (fault_at rule.WrongKind (codes "/a/port"))
unfolding walk_on_literals
truth_as_number = refl

object_as_list : answer (object_at here members.Port (with_port (list []))) ≡ Err (fault_at rule.WrongKind (codes "/a/port"))
unfolding walk_on_literals
object_as_list = refl

-- what may be absent
number_absent : answer (number_where_there here members.Port (Some (obj []))) ≡ Ok None
unfolding walk_on_literals
number_absent = refl

number_null : answer (number_where_there here members.Port (Some (with_port null))) ≡ Err (fault_at rule.WrongKind (codes "/a/port"))
unfolding walk_on_literals
number_null = refl

text_absent : answer (text_where_there here members.Name (Some (with_port null))) ≡ Ok None
unfolding walk_on_literals
text_absent = refl

object_absent : answer (object_where_there here members.Name None) ≡ Ok None
unfolding walk_on_literals
object_absent = refl

list_absent : answer (list_where_there here members.Name (Some (with_port null))) ≡ Ok []
unfolding walk_on_literals
list_absent = refl

list_there : answer (list_where_there here members.Port (Some (with_port (list (num 1 ∷ null ∷ []))))) ≡ Ok (num 1 ∷ null ∷ [])
unfolding walk_on_literals
list_there = refl

leaf_absent : answer (leaf_where_there here members.Name (Some (with_port null))) ≡ Ok false
unfolding walk_on_literals
leaf_absent = refl

leaf_there : answer (leaf_where_there here members.Port (Some (with_port null))) ≡ Ok true
unfolding walk_on_literals
leaf_there = refl

leaf_of_other_kind : answer (leaf_where_there here members.Port (Some (with_port (boolean true)))) ≡ Err (fault_at rule.WrongKind (codes "/a/port"))
unfolding walk_on_literals
leaf_of_other_kind = refl

-- ---- Lists of objects with names

abbrev named : Data → Data
named d = obj ((codes "name", d) ∷ [])

abbrev named_x : Data
named_x = named (string (codes "x"))

abbrev named_y : Data
named_y = named (string (codes "y"))

two_names : answer (elements_of here (named_y ∷ named_x ∷ [])) ≡ Ok (record { index = 0; name = codes "y"; value = named_y } ∷ record { index = 1; name = codes "x"; value = named_x } ∷ [])
unfolding walk_on_literals
two_names = refl

name_again : answer (elements_of here (named_x ∷ named_y ∷ named_x ∷ named_y ∷ [])) ≡ Err (fault_at rule.RepeatedName (codes "/a/2/name"))
unfolding walk_on_literals
name_again = refl

no_object : answer (elements_of here (named_x ∷ num 1 ∷ named_x ∷ [])) ≡ Err (fault_at rule.WrongKind (codes "/a/1"))
unfolding walk_on_literals
no_object = refl

no_name : answer (elements_of here (named_x ∷ obj [] ∷ [])) ≡ Err (fault_at rule.Missing (codes "/a/1/name"))
unfolding walk_on_literals
no_name = refl

name_as_number : answer (elements_of here (named (num 1) ∷ [])) ≡ Err (fault_at rule.WrongKind (codes "/a/0/name"))
unfolding walk_on_literals
name_as_number = refl

-- ---- Members that may not stand: the least of them by octets is named

abbrev operator_and_port : List (Row ℕ)
operator_and_port = row members.Operator 0 ∷ row members.Port 0 ∷ []

abbrev port_alone : List (Row ℕ)
port_alone = row members.Port 0 ∷ []

known_alone : answer (all_known here operator_and_port (with_port null)) ≡ Ok tt
unfolding walk_on_literals
known_alone = refl

least_unknown : answer (all_known here port_alone (obj ((codes "z", null) ∷ (codes "port", null) ∷ (codes "c/d", null) ∷ (codes "x", null) ∷ []))) ≡ Err (fault_at rule.UnknownMatch (codes "/a/c~1d"))
unfolding walk_on_literals
least_unknown = refl
