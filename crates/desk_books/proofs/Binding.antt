-- The bindings that are put into an empty store.
use Rattle.std.proofs.Common.{◌≡◌, true, false, List, [], ◌++◌, refl, sym, ap, subst, ◌∙◌}
use Rattle.std.proofs.Math.Bool.{and-true}
use Rattle.base_rows.specs.Sortable.{SortKeysAscend, set_rows}
use Rattle.base_rows.specs.Changes.{are_apart}
use Rattle.base_rows.proofs.SortableLaws.{ascend-set_rows}
use Rattle.acl_model.specs.declared.binding.Binding.{Binding}
use Rattle.acl_model.specs.SortKeys.{binding_sort_key}
use Rattle.acl_model.specs.Changes.{same_spot, has_binding, HaveSame, IsBindingChange, without_bindings, replaced}
use Rattle.acl_rows.specs.Rows.{rows_of}
use Rattle.acl_compile.specs.Compiled.{CompiledState, HasItsRows}
use Rattle.acl_compile.specs.Plans.{Plan, bindings_after, IsKept, IsMemberPlan}
use Rattle.table_model.specs.declared.thing.Thing.{Thing}
use Rattle.table_model.specs.declared.bind.ClassRow.{ClassRow}
use Rattle.table_model.specs.declared.bind.NameRow.{NameRow}
use Rattle.table_model.specs.Bindings.{things_bindings, classes_bindings, names_bindings, bindings_of}
use Rattle.table_laws.proofs.Stores.{replaced_same}
use Rattle.table_laws.proofs.TableBindings.{bindings_apart}
use Rattle.usage_tables.specs.declared.cached_file.CachedFile.{CachedFile}
use Rattle.usage_tables.specs.Policies.{policy_of}
use Rattle.desk_model.specs.DeskTables.{DeskTables, IsSound}
use Rattle.desk_model.specs.Verdicts.{policy_at, desk_bindings}
use Rattle.desk_books.specs.CompiledDesk.{IsCompiledOf}
use Rattle.desk_books.specs.Policies.{HasPolicies}

none_has : (b : Binding) → has_binding b [] ≡ false
unfolding has_binding
none_has b = refl

all_come : (bindings : List Binding) → are_apart same_spot bindings ≡ true → IsBindingChange [] bindings [] bindings
unfolding has_binding
all_come bindings once = record { went = λ b. refl; came = λ b. sym (and-true (has_binding b bindings)); gone_once = refl; come_once = once }

pub put_in : (bindings : List Binding) → replaced [] bindings [] ≡ set_rows binding_sort_key bindings []
unfolding replaced without_bindings
put_in bindings = refl

pub put_has_same : (bindings : List Binding) → are_apart same_spot bindings ≡ true → HaveSame (set_rows binding_sort_key bindings []) bindings
unfolding replaced without_bindings
put_has_same bindings once = replaced_same [] [] bindings [] bindings tt (λ b. refl) refl once (all_come bindings once)

pub put_ascend : (bindings : List Binding) → SortKeysAscend binding_sort_key (set_rows binding_sort_key bindings [])
put_ascend bindings = ascend-set_rows binding_sort_key bindings [] tt

-- ---- The bindings of a desk

module _ (come : List Binding) (fresh planned after : CompiledState) (plan : Plan) (empty : fresh.bindings ≡ []) (kept : IsKept fresh planned) (made : IsMemberPlan [] come planned plan) (is : after.bindings ≡ bindings_after plan planned) where
  pub bound : after.bindings ≡ set_rows binding_sort_key come []
  bound = is ∙ made.bindings ∙ ap (replaced [] come) (kept.bindings ∙ empty) ∙ put_in come

  pub bound_rows : after.rows ≡ rows_of after.slots after.bindings → HasItsRows after
  bound_rows rows = record { ascend = subst (SortKeysAscend binding_sort_key) (sym bound) (put_ascend come); rows = rows }

module _ (things : List Thing) (classes : List ClassRow) (names : List NameRow) (files : List CachedFile) (come : List Binding) (lists : come ≡ things_bindings things ++ classes_bindings classes ++ names_bindings names) (bound after : CompiledState) (has : bound.bindings ≡ set_rows binding_sort_key come []) (made : HasPolicies files bound after) where
  pub compiled_of : (desk : DeskTables) → IsSound desk → desk.tables.things ≡ things → desk.tables.classes ≡ classes → desk.tables.names ≡ names → desk.files ≡ files → IsCompiledOf desk after
  unfolding bindings_of policy_at desk_bindings
  compiled_of desk sound of_things of_classes of_names of_files =
      let same : come ≡ bindings_of desk.tables = lists ∙ sym (λ i. things_bindings (of_things i) ++ classes_bindings (of_classes i) ++ names_bindings (of_names i)) in
      let store : after.bindings ≡ set_rows binding_sort_key (bindings_of desk.tables) [] = made.bindings ∙ has ∙ ap (λ bs. set_rows binding_sort_key bs []) same in
      record {
        policies = λ u. made.policies u ∙ ap (λ fs. policy_of fs u) (sym of_files);
        bindings = subst (λ bs. HaveSame bs (bindings_of desk.tables)) (sym store) (put_has_same (bindings_of desk.tables) (bindings_apart desk.tables sound.tables));
        rows = made.rows;
      }
