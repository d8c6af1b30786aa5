-- Parts of definitions that lemmas speak of.
use Rattle.std.specs.Prelude.{ℕ, Option, Some, codes, List, ◌++◌, None}
use Rattle.desk_model.specs.DeskTables.{DeskTables}
use Rattle.run_common.specs.declared.status.Status.TheVariants.{Done, Refused}
use Rattle.run_common.specs.Output.{Output}
use Rattle.table_model.specs.declared.thing.Thing.{Thing}
use Rattle.run_reports.specs.Export.Lists.{lists_text, family_of, back_of, front_of}
use Rattle.run_common.specs.Status.{status_number}
use Rattle.mud_base.specs.declared.packet.Direction.{Direction}
use Rattle.mud_base.specs.declared.packet.Direction.TheVariants.{From, To}
use Rattle.run_reports.specs.declared.export.lists.ListName.{ListName}
use Rattle.rule_export.specs.Listed.{ListItem, listed_of}
use Rattle.desk_model.specs.Verdicts.{policy_at}
use Rattle.rule_export.specs.Text.{listed_text}
use Rattle.text_values.specs.Lists.{with_commas}
use Rattle.run_reports.specs.declared.export.lists.ListName.TheVariants.{FromV4, FromV6, ToV4, ToV6}

abbrev pub output_of : DeskTables → ℕ → Option Thing → Output
output_of desk moment None = record { text = codes "fault NoThing\n"; status = status_number Refused }
output_of desk moment (Some thing) = record { text = lists_text desk moment thing; status = status_number Done }

abbrev pub side_of : ListName → Direction
side_of FromV4 = From
side_of FromV6 = From
side_of ToV4 = To
side_of ToV6 = To

abbrev pub items_of : DeskTables → ℕ → List ℕ → ListName → List ListItem
items_of desk moment url name = listed_of desk.tables moment url (family_of name) (policy_at desk url) (side_of name)

abbrev pub list_text : DeskTables → ℕ → List ℕ → ListName → List ℕ
list_text desk moment url name = front_of name ++ (with_commas (listed_text (side_of name) (family_of name)) (items_of desk moment url name) ++ back_of name)
