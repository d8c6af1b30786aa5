-- The output of a Thing, by what is known of it.
use Rattle.std.proofs.Common.{◌≡◌, ℕ, suc, ◌+◌, ◌<◌, ◌≤◌, ◌⊎◌, Bool, true, false, cond, List, [], ◌∷◌, ◌++◌, length, drop, drop-cons, get_or, Option, Some, None, refl, sym, ap, subst, ◌∙◌, arith}
use Rattle.std.specs.Prelude.{codes, flat_map}
use Rattle.std.specs.Option.{option_map}
use Rattle.std.specs.declared.cmp.Ordering.{Ordering}
use Rattle.std.specs.Ordering.{is_eq, ordering_reverse}
use Rattle.std.proofs.lemmas.List.{drop_all}
use Rattle.std.proofs.lemmas.Option.{same_Some, none-some}
use Rattle.mud_base.specs.declared.addr.Family.{Family}
use Rattle.mud_base.specs.declared.addr.Family.TheVariants.{V4, V6}
use Rattle.mud_base.specs.declared.addr.Mac.{Mac}
use Rattle.mud_base.specs.declared.prefix.Prefix.{Prefix}
use Rattle.mud_base.specs.declared.packet.Direction.{Direction}
use Rattle.mud_base.specs.declared.packet.Direction.TheVariants.{From, To}
use Rattle.mud_world.specs.Door.{DoorState, put_out}
use Rattle.acl_rows.specs.Rows.{for_ever}
use Rattle.acl_rows.specs.View.{View, IsViewOf}
use Rattle.acl_compile.specs.Compiled.{CompiledState}
use Rattle.table_model.specs.declared.thing.Thing.{Thing}
use Rattle.table_model.specs.Things.{thing_at, mac_of}
use Rattle.base_rows.specs.Sortable.{sort_key_cmp, same_sort_key}
use Rattle.base_rows.proofs.SortableLaws.{sort_key_cmp_turned, same_sort_key-cmp}
use Rattle.packet_judge.specs.ByRows.{IsViewOver}
use Rattle.desk_model.specs.DeskTables.{DeskTables}
use Rattle.desk_model.specs.Verdicts.{policy_at, desk_bindings}
use Rattle.desk_books.specs.CompiledDesk.{IsCompiledOf}
use Rattle.mud_desk.proofs.Views.{view_over}
use Rattle.mud_desk.specs.DeskState.{DeskState, tables_of, AreRulesOf}
use Rattle.run_common.specs.Output.{Output, WroteFirst}
use Rattle.run_common.specs.Moments.{listing_moment}
use Rattle.rule_export.specs.Listed.{listed_of}
use Rattle.rule_export.specs.Resolved.{wanted, resolved_of}
use Rattle.text_values.specs.Lists.{with_commas}
use Rattle.rule_export.specs.Text.{listed_text, resolved_text}
use Rattle.rule_export.proofs.ViewLaws.{same_text}
use Rattle.run_reports.specs.declared.export.lists.ListName.{ListName}
use Rattle.run_reports.specs.declared.export.lists.ListName.TheVariants.{FromV4, FromV6, ToV4, ToV6}
use Rattle.run_reports.specs.Export.Lists.{family_of, front_of, back_of, all_lists, empty_lists, lists_text}
use Rattle.run_reports.specs.Export.Sources.{SourceParts, sources, view_for, source_items, source_text, sources_text, IsRuleView, AreSources, is_held, AreSourcesOf}
use Rattle.run_reports.specs.Export.Exported.{export_output, WritesLists}
use Rattle.run_reports.proofs.Parts.{list_text, output_of}

-- ---- What the lists are made by

rule_view : (desk : DeskTables) (compiled : CompiledState) → IsCompiledOf desk compiled → (url : List ℕ) (side : Direction) (view : View) → IsViewOf compiled.slots compiled.rows url side view → IsRuleView desk url side view
rule_view desk compiled is url side view lends = record {
  slots = compiled.slots;
  bindings = compiled.bindings;
  same = is.bindings;
  over = subst (λ policy. IsViewOver compiled.slots compiled.bindings url policy side view) (is.policies url) (view_over compiled url side view lends is.rows);
}

pub sources_there : (state : DeskState) → IsCompiledOf (tables_of state) state.books.compiled → (m : ℕ) (locals : List Prefix) → locals ≡ (tables_of state).tables.locals → (o : Option Thing) (from to : View)
    → AreRulesOf state From o (Some from) → AreRulesOf state To o (Some to) → AreSourcesOf (tables_of state) m o (Some (sources from to locals m))
sources_there state is m locals same None from to lent lent' = absurd lent
sources_there state is m locals same (Some thing) from to lent lent' = record {
  from = rule_view (tables_of state) state.books.compiled is thing.url From from lent;
  to = rule_view (tables_of state) state.books.compiled is thing.url To to lent';
  locals = same;
  moment_is = refl;
}

-- ---- Their text is that of the lists by the tables

module _ (desk : DeskTables) (m : ℕ) (small : m < for_ever) (url : List ℕ) (s : SourceParts) (are : AreSources desk m url s) where
  side_alike : (side : Direction) (version : Family) (view : View) → IsRuleView desk url side view
      → with_commas (resolved_text view version) (resolved_of (wanted s.locals s.moment version) view) ≡ with_commas (listed_text side version) (listed_of desk.tables m url version (policy_at desk url) side)
  unfolding desk_bindings
  side_alike side version view is =
      same_text is.slots is.bindings desk.tables url (policy_at desk url) side view (wanted s.locals s.moment version) is.over is.same are.locals (subst (λ (n : ℕ). n < for_ever) (sym are.moment_is) small)
      ∙ ap (λ (n : ℕ). with_commas (listed_text side version) (listed_of desk.tables n url version (policy_at desk url) side)) are.moment_is

  text_alike : (name : ListName) → source_text s name ≡ list_text desk m url name
  unfolding source_text source_items view_for family_of
  text_alike FromV4 = ap (λ (text : List ℕ). front_of FromV4 ++ (text ++ back_of FromV4)) (side_alike From V4 s.from are.from)
  text_alike FromV6 = ap (λ (text : List ℕ). front_of FromV6 ++ (text ++ back_of FromV6)) (side_alike From V6 s.from are.from)
  text_alike ToV4 = ap (λ (text : List ℕ). front_of ToV4 ++ (text ++ back_of ToV4)) (side_alike To V4 s.to are.to)
  text_alike ToV6 = ap (λ (text : List ℕ). front_of ToV6 ++ (text ++ back_of ToV6)) (side_alike To V6 s.to are.to)

  pub texts_alike : (names : List ListName) → flat_map (source_text s) names ≡ flat_map (list_text desk m url) names
  texts_alike [] = refl
  texts_alike (name ∷ names) = λ i. text_alike name i ++ texts_alike names i

-- ---- The output

none_of : (o : Option Thing) → None ≡ option_map is_held o → o ≡ None
none_of None is = refl
none_of (Some thing) is = absurd (none-some (is_held thing) is)

output_empty : (desk : DeskTables) (m : ℕ) (o : Option Thing) → Some true ≡ option_map is_held o → output_of desk m o ≡ record { text = sources_text None; status = 0 }
unfolding is_held lists_text sources_text
output_empty desk m None is = absurd (none-some true (sym is))
output_empty desk m (Some thing) is =
    let output : Bool → Output = λ held. record { text = cond held empty_lists (flat_map (list_text desk m thing.url) all_lists); status = 0 } in
    ap output (sym (same_Some true thing.held is))

output_listed : (desk : DeskTables) (m : ℕ) → m < for_ever → (o : Option Thing) (s : Option SourceParts) → Some false ≡ option_map is_held o → AreSourcesOf desk m o s → output_of desk m o ≡ record { text = sources_text s; status = 0 }
unfolding is_held lists_text sources_text
output_listed desk m small None s is over = absurd (none-some false (sym is))
output_listed desk m small (Some thing) None is over = absurd over
output_listed desk m small (Some thing) (Some s) is over =
    let output : Bool → Output = λ held. record { text = cond held empty_lists (flat_map (list_text desk m thing.url) all_lists); status = 0 } in
    let with_text : List ℕ → Output = λ text. record { text = text; status = 0 } in
    ap output (sym (same_Some false thing.held is)) ∙ ap with_text (sym (texts_alike desk m small thing.url s over all_lists))

-- ---- What is written

abbrev pub IsOfLists : ℕ → Type 0
IsOfLists status = (status ≡ 0) ⊎ ((status ≡ 4) ⊎ (status ≡ 5))

zero_of : (status : ℕ) → IsOfLists status → (status ≡ 0) ⊎ (status ≡ 3) → status ≡ 0
zero_of status is which = grind arith

abbrev IsOfFault : ℕ → Type 0
IsOfFault status = (status ≡ 3) ⊎ ((status ≡ 4) ⊎ (status ≡ 5))

three_of : (status : ℕ) → IsOfFault status → (status ≡ 0) ⊎ (status ≡ 3) → status ≡ 3
three_of status is which = grind arith

module _ (desk : DeskTables) (mac : Mac) (clock : ℕ) (old new : DoorState) (status : ℕ) where
  -- the text of the output was written, with 0
  wrote_text : (output : Output) (text : List ℕ) → output ≡ record { text = text; status = 0 }
      → IsOfLists status → (status ≡ 0 → new ≡ put_out text old) → ((status ≡ 4) ⊎ (status ≡ 5) → WroteFirst text old new) → WritesLists output old new status
  wrote_text output text is of done part =
      let wrote : WritesLists (record { text = text; status = 0 }) old new status = record {
        status_is = λ which. zero_of status of which;
        done = λ which. done (zero_of status of which);
        part = part;
      } in
      subst (λ (d : Output). WritesLists d old new status) (sym is) wrote

  pub wrote_empty : Some true ≡ option_map is_held (thing_at mac desk.tables.things)
      → IsOfLists status → (status ≡ 0 → new ≡ put_out (sources_text None) old) → ((status ≡ 4) ⊎ (status ≡ 5) → WroteFirst (sources_text None) old new)
      → WritesLists (export_output mac clock desk) old new status
  unfolding export_output
  wrote_empty held of done part =
      wrote_text (export_output mac clock desk) (sources_text None) (output_empty desk (listing_moment desk.stamp (Some clock)) (thing_at mac desk.tables.things) held) of done part

  pub wrote_lists : (m : ℕ) → m ≡ listing_moment desk.stamp (Some clock) → m < for_ever → (s : Option SourceParts)
      → Some false ≡ option_map is_held (thing_at mac desk.tables.things) → AreSourcesOf desk m (thing_at mac desk.tables.things) s
      → IsOfLists status → (status ≡ 0 → new ≡ put_out (sources_text s) old) → ((status ≡ 4) ⊎ (status ≡ 5) → WroteFirst (sources_text s) old new)
      → WritesLists (export_output mac clock desk) old new status
  unfolding export_output
  wrote_lists m at small s held over of done part =
      wrote_text (export_output mac clock desk) (sources_text s)
      (ap (λ (n : ℕ). output_of desk n (thing_at mac desk.tables.things)) (sym at) ∙ output_listed desk m small (thing_at mac desk.tables.things) s held over) of done part

  pub wrote_fault : None ≡ option_map is_held (thing_at mac desk.tables.things)
      → IsOfFault status → (status ≡ 3 → new ≡ put_out (codes "fault NoThing\n") old) → ((status ≡ 4) ⊎ (status ≡ 5) → WroteFirst (codes "fault NoThing\n") old new)
      → WritesLists (export_output mac clock desk) old new status
  unfolding export_output
  wrote_fault none is done part =
      let wrote : WritesLists (output_of desk (listing_moment desk.stamp (Some clock)) None) old new status = record {
        status_is = λ which. three_of status is which;
        done = λ which. done (three_of status is which);
        part = part;
      } in
      subst (λ (o : Option Thing). WritesLists (output_of desk (listing_moment desk.stamp (Some clock)) o) old new status) (sym (none_of (thing_at mac desk.tables.things) none)) wrote

-- ---- The Thing of a hardware address

is_same : (mac : Mac) (thing : Thing) (o : Ordering) → sort_key_cmp mac.0 (mac_of thing) ≡ o → same_sort_key (mac_of thing) mac.0 ≡ is_eq (ordering_reverse o)
is_same mac thing o is = same_sort_key-cmp (mac_of thing) mac.0 (ordering_reverse o) (sort_key_cmp_turned mac.0 (mac_of thing) o is)

pub told_same : (mac : Mac) (thing : Thing) (o : Ordering) (b : Bool) → o ≡ sort_key_cmp mac.0 (mac_of thing) → b ≡ is_eq (ordering_reverse o) → b ≡ same_sort_key (mac_of thing) mac.0
told_same mac thing o b is tells = tells ∙ sym (is_same mac thing o (sym is))

module _ (mac : Mac) (things : List Thing) (i : ℕ) (thing : Thing) (within : i < length things) (is : thing ≡ get_or things i thing) where
  first_left : drop i things ≡ thing ∷ drop (i + 1) things
  first_left = drop-cons things i thing within ∙ (λ j. sym is j ∷ drop (next j) things)
    where
      next : suc i ≡ i + 1
      next = omega arith

  pub thing_here : same_sort_key (mac_of thing) mac.0 ≡ true → thing_at mac (drop i things) ≡ Some thing
  unfolding thing_at
  thing_here same = ap (thing_at mac) first_left ∙ ap (λ (b : Bool). cond b (Some thing) (thing_at mac (drop (i + 1) things))) same

  pub thing_later : same_sort_key (mac_of thing) mac.0 ≡ false → thing_at mac (drop (i + 1) things) ≡ thing_at mac (drop i things)
  unfolding thing_at
  thing_later other = sym (ap (thing_at mac) first_left ∙ ap (λ (b : Bool). cond b (Some thing) (thing_at mac (drop (i + 1) things))) other)

pub no_thing_left : (mac : Mac) (things : List Thing) (i : ℕ) → length things ≤ i → thing_at mac (drop i things) ≡ None
unfolding thing_at
no_thing_left mac things i past = ap (thing_at mac) (drop_all i things past)
