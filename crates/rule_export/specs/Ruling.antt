-- What an access list with addresses alone says of a packet: the rule of the first item that matches.
use Rattle.std.specs.Prelude.{◌&&◌, Bool, true, false, List, find, Option, Some, None}
use Rattle.std.specs.Option.{option_map, option_map_or, option_and_then}
use Rattle.mud_base.specs.declared.packet.Direction.{Direction}
use Rattle.mud_base.specs.declared.packet.Fields.{Fields}
use Rattle.mud_base.specs.declared.prefix.Prefix.{Prefix}
use Rattle.acl_model.specs.declared.entry.Entry.{Entry}
use Rattle.acl_model.specs.declared.ruling.DefaultRule.TheVariants.{Dns, Ntp}
use Rattle.acl_model.specs.declared.ruling.Ruling.{Ruling}
use Rattle.acl_model.specs.declared.ruling.Ruling.TheVariants.{Accept, AcceptDefault, Drop, DropDefault, DropHeld}
use Rattle.acl_model.specs.Match.{peer_of, prefix_passes, rest_matches}
use Rattle.acl_rows.specs.Rows.{entry_at}
use Rattle.acl_rows.specs.View.{View}
use Rattle.rule_export.specs.declared.item.RuleNumber.{RuleNumber}
use Rattle.rule_export.specs.declared.item.RuleNumber.TheVariants as rule
use Rattle.rule_export.specs.declared.item.Resolved.{Resolved}
use Rattle.rule_export.specs.Listed.{ListItem}

-- ---- Items

-- the network, where there is one, holds the peer, and the entry's other tests hold
unfoldable pub entry_passes : Direction → Fields → Option Direction → Option Prefix → Entry → Bool
entry_passes side fields begun network entry = prefix_passes network (peer_of side fields) && rest_matches entry fields side begun

-- ---- The list by the tables, whose items have their entries

unfoldable pub listed_passes : Direction → Fields → Option Direction → ListItem → Bool
listed_passes side fields begun listed = entry_passes side fields begun listed.item.network listed.entry

unfoldable pub listed_rule : ListItem → RuleNumber
listed_rule listed = listed.item.rule

unfoldable pub listed_ruling : Direction → List ListItem → Fields → Option Direction → Option RuleNumber
listed_ruling side list fields begun = option_map listed_rule (find (listed_passes side fields begun) list)

-- ---- The list of a view, which has the entries

-- the entry of a rule
unfoldable pub entry_of : View → RuleNumber → Option Entry
entry_of view (rule.File n) = option_and_then (λ part. entry_at n part.entries) view.file
entry_of view (rule.Default Dns) = entry_at 1 view.defaults.entries
entry_of view (rule.Default Ntp) = entry_at 2 view.defaults.entries

unfoldable pub item_passes : View → Fields → Option Direction → Resolved → Bool
item_passes view fields begun item = option_map_or (entry_passes view.side fields begun item.network) (entry_of view item.rule) false

unfoldable pub rule_of : Resolved → RuleNumber
rule_of item = item.rule

unfoldable pub resolved_ruling : View → List Resolved → Fields → Option Direction → Option RuleNumber
resolved_ruling view list fields begun = option_map rule_of (find (item_passes view fields begun) list)

-- ---- The rule that a ruling names, where it names one

unfoldable pub number_of : Ruling → Option RuleNumber
number_of (Accept n) = Some (rule.File n)
number_of (Drop n) = Some (rule.File n)
number_of (AcceptDefault which) = Some (rule.Default which)
number_of (DropDefault why) = None
number_of DropHeld = None
