-- Parts of the list by the tables that the lemmas speak of.
use Rattle.std.specs.Prelude.{ℕ, List, map, None, Option, Some, [], ◌∷◌, flat_map, Bool, codes, ◌++◌, if◌then◌else◌}
use Rattle.std.specs.List.{filter}
use Rattle.mud_base.specs.declared.addr.Family.{Family}
use Rattle.mud_base.specs.declared.packet.Direction.{Direction}
use Rattle.mud_base.specs.declared.prefix.Prefix.{Prefix}
use Rattle.acl_model.specs.declared.entry.Entry.{Entry}
use Rattle.acl_model.specs.declared.ruling.DefaultRule.{DefaultRule}
use Rattle.acl_model.specs.Defaults.{default_entry}
use Rattle.table_model.specs.Tables.{Tables}
use Rattle.rule_export.specs.declared.item.RuleNumber.TheVariants as rule
use Rattle.rule_export.specs.declared.item.Resolved.{Resolved}
use Rattle.rule_export.specs.Networks.{in_order, common_part}
use Rattle.rule_export.specs.Listed.{ListItem, table_addrs, addr_network, is_listed, listed_items}
use Rattle.std.specs.Option.{option_and_then}
use Rattle.rule_export.specs.Objects.{quoted}

abbrev pub list_item : Entry → Resolved → ListItem
list_item entry item = record { item = item; entry = entry }

abbrev pub addr_networks : Tables → ℕ → List ℕ → Family → Entry → List Prefix
addr_networks tables now url version entry = in_order (map addr_network (filter (is_listed tables now url version entry) (table_addrs tables)))

abbrev pub listed_default : Tables → ℕ → List ℕ → Family → Direction → DefaultRule → List ListItem
listed_default tables now url version side which = listed_items tables now url version (rule.Default which) (default_entry which side)

abbrev pub common_of : List Prefix → Option Prefix
common_of [] = None
common_of (p ∷ []) = Some p
common_of (p ∷ (q ∷ qs)) = option_and_then (common_part p) (common_of (q ∷ qs))

abbrev pub choices : List (List Prefix) → List (List Prefix)
choices [] = [] ∷ []
choices (ps ∷ pss) = flat_map (λ p. map (λ choice. p ∷ choice) (choices pss)) ps

abbrev pub name_text : Bool → List ℕ → List ℕ
name_text first name = (if first then [] else codes ",") ++ quoted name ++ codes ":"
