-- What the code makes the lists of a Thing by: the views of both sides. What stands here is used by contracts inside the crate
-- alone.
use Rattle.std.specs.Prelude.{◌≡◌, ℕ, Bool, List, ◌++◌, flat_map, Option, Some, None}
use Rattle.mud_base.specs.declared.packet.Direction.{Direction}
use Rattle.mud_base.specs.declared.packet.Direction.TheVariants.{From, To}
use Rattle.mud_base.specs.declared.prefix.Prefix.{Prefix}
use Rattle.acl_model.specs.declared.binding.Binding.{Binding}
use Rattle.acl_model.specs.Changes.{HaveSame}
use Rattle.acl_rows.specs.Rows.{Slots}
use Rattle.acl_rows.specs.View.{View}
use Rattle.table_model.specs.declared.thing.Thing.{Thing}
use Rattle.packet_judge.specs.ByRows.{IsViewOver}
use Rattle.desk_model.specs.DeskTables.{DeskTables}
use Rattle.desk_model.specs.Verdicts.{policy_at, desk_bindings}
use Rattle.rule_export.specs.declared.item.Resolved.{Resolved}
use Rattle.rule_export.specs.Resolved.{wanted, resolved_of}
use Rattle.text_values.specs.Lists.{with_commas}
use Rattle.rule_export.specs.Text.{resolved_text}
use Rattle.run_reports.specs.declared.export.lists.ListName.{ListName}
use Rattle.run_reports.specs.declared.export.lists.ListName.TheVariants.{FromV4, FromV6, ToV4, ToV6}
use Rattle.run_reports.specs.Export.Lists.{family_of, front_of, back_of, all_lists, empty_lists}

-- the views of both sides, the local networks, and the moment
pub record SourceParts : Type 0 where
  pub from : View
  pub to : View
  pub locals : List Prefix
  pub moment : ℕ

abbrev pub sources : View → View → List Prefix → ℕ → SourceParts
sources from to locals moment = record { from = from; to = to; locals = locals; moment = moment }

-- ---- Texts

-- the view of the side that the list is for
unfoldable pub view_for : SourceParts → ListName → View
view_for s FromV4 = s.from
view_for s FromV6 = s.from
view_for s ToV4 = s.to
view_for s ToV6 = s.to

unfoldable pub source_items : SourceParts → ListName → List Resolved
source_items s name = resolved_of (wanted s.locals s.moment (family_of name)) (view_for s name)

unfoldable pub source_text : SourceParts → ListName → List ℕ
source_text s name = front_of name ++ (with_commas (resolved_text (view_for s name) (family_of name)) (source_items s name) ++ back_of name)

-- without sources the lists are empty
unfoldable pub sources_text : Option SourceParts → List ℕ
sources_text None = empty_lists
sources_text (Some s) = flat_map (source_text s) all_lists

-- ---- Whose sources they are

-- The view is that of a URL and a side over the tables: the policy is that of the URL's approved file, and the rows are those
-- of the tables' bindings.
pub record IsRuleView (desk : DeskTables) (url : List ℕ) (side : Direction) (view : View) : Type 0 where
  pub slots : Slots
  pub bindings : List Binding
  pub same : HaveSame bindings (desk_bindings desk)
  pub over : IsViewOver slots bindings url (policy_at desk url) side view

-- They are the sources of the lists of a URL over the tables, at a moment.
pub record AreSources (desk : DeskTables) (moment : ℕ) (url : List ℕ) (sources : SourceParts) : Type 0 where
  pub from : IsRuleView desk url From sources.from
  pub to : IsRuleView desk url To sources.to
  pub locals : sources.locals ≡ desk.tables.locals
  pub moment_is : sources.moment ≡ moment

-- ---- The Thing

unfoldable pub is_held : Thing → Bool
is_held thing = thing.held

-- there are sources exactly where there is a Thing, and they are those of its URL
abbrev pub AreSourcesOf : DeskTables → ℕ → Option Thing → Option SourceParts → Type 0
AreSourcesOf desk moment None None = Unit {0}
AreSourcesOf desk moment None (Some sources) = ⊥
AreSourcesOf desk moment (Some thing) None = ⊥
AreSourcesOf desk moment (Some thing) (Some sources) = AreSources desk moment thing.url sources
