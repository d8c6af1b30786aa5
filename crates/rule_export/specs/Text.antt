-- The text of the items of access lists in the exchange form (RFC 8519, 4.1; RFC 7951): compact JSON.
use Rattle.std.specs.Prelude.{ℕ, List, [], ◌++◌, codes, decimal}
use Rattle.std.specs.Option.{option_map_or}
use Rattle.mud_base.specs.declared.addr.Family.{Family}
use Rattle.mud_base.specs.declared.packet.Direction.{Direction}
use Rattle.acl_model.specs.declared.ruling.DefaultRule.TheVariants.{Dns, Ntp}
use Rattle.acl_model.specs.declared.entry.Entry.{Entry}
use Rattle.acl_rows.specs.View.{View}
use Rattle.text_values.specs.Lists.{with_commas}
use Rattle.rule_export.specs.Tests.{entry_text}
use Rattle.rule_export.specs.declared.item.RuleNumber.{RuleNumber}
use Rattle.rule_export.specs.declared.item.RuleNumber.TheVariants as rule
use Rattle.rule_export.specs.declared.item.Resolved.{Resolved}
use Rattle.rule_export.specs.Listed.{ListItem}
use Rattle.rule_export.specs.Ruling.{entry_of}

-- ---- Items

unfoldable pub rule_text : RuleNumber → List ℕ
rule_text (rule.File n) = codes "e" ++ decimal n
rule_text (rule.Default Dns) = codes "dns"
rule_text (rule.Default Ntp) = codes "ntp"

-- the text of an item by its entry, whose Thing is on this side; its name is its rule and its number among those of its entry
unfoldable pub item_text : Direction → Family → Resolved → Entry → List ℕ
item_text side family item entry = entry_text family side item.network (rule_text item.rule ++ codes "-" ++ decimal item.number) entry

-- ---- Lists

unfoldable pub listed_text : Direction → Family → ListItem → List ℕ
listed_text side family listed = item_text side family listed.item listed.entry

-- in the list of a view the view has the entry; nothing where the item's rule names none of its entries
unfoldable pub resolved_text : View → Family → Resolved → List ℕ
resolved_text view family item = option_map_or (item_text view.side family item) (entry_of view item.rule) []

abbrev pub items_text : View → Family → List Resolved → List ℕ
items_text view family items = with_commas (resolved_text view family) items
