-- What is compiled follows a change of the desk.
use Rattle.std.proofs.Common.{◌≡◌, ℕ, Bool, true, false, cond, List, Option, refl, sym, ap, subst, ◌∙◌, bytes_eq}
use Rattle.base_rows.specs.Sortable.{SortKeysAscend}
use Rattle.acl_model.specs.declared.binding.Binding.{Binding}
use Rattle.acl_model.specs.declared.entry.Policy.{Policy}
use Rattle.acl_model.specs.SortKeys.{binding_sort_key}
use Rattle.acl_model.specs.Changes.{HaveSame, IsBindingChange, replaced}
use Rattle.acl_rows.specs.Rows.{Slots, rows_of}
use Rattle.acl_changes.proofs.Bound.{ascend-replaced}
use Rattle.base_rows.specs.declared.edit.Edit.{Edit}
use Rattle.base_rows.specs.Edits.{edited}
use Rattle.acl_compile.specs.Compiled.{CompiledState}
use Rattle.acl_compile.specs.Plans.{Plan, IsKept, IsMemberPlan, IsPolicyPlan, slots_after, bindings_after, policy_held}
use Rattle.table_model.specs.Tables.{Tables}
use Rattle.table_model.specs.Bindings.{bindings_of}
use Rattle.table_laws.proofs.Stores.{replaced_same}
use Rattle.table_laws.proofs.TableBindings.{bindings_apart}
use Rattle.usage_tables.specs.declared.cached_file.CachedFile.{CachedFile}
use Rattle.usage_tables.specs.Policies.{policy_of}
use Rattle.desk_model.specs.DeskTables.{DeskTables, IsSound}
use Rattle.desk_model.specs.Verdicts.{policy_at, desk_bindings}
use Rattle.desk_books.specs.CompiledDesk.{IsCompiledOf}
use Rattle.desk_books.specs.Planned.{IsCommitted}
use Rattle.mud_url.proofs.Offsets.{same_octets}

-- it asks for the tables and the files alone
pub compiled_alike : (d d' : DeskTables) (c : CompiledState) → d'.tables ≡ d.tables → d'.files ≡ d.files → IsCompiledOf d c → IsCompiledOf d' c
unfolding policy_at desk_bindings
compiled_alike d d' c tables files k = record {
  policies = λ url. k.policies url ∙ ap (λ (fs : List CachedFile). policy_of fs url) (sym files);
  bindings = subst (λ (ts : Tables). HaveSame c.bindings (bindings_of ts)) (sym tables) k.bindings;
  rows = k.rows;
}

-- more room changes nothing
pub compiled_kept : (d : DeskTables) (c c' : CompiledState) → IsKept c c' → IsCompiledOf d c → IsCompiledOf d c'
compiled_kept d c c' same k =
    let rows : rows_of c'.slots c'.bindings ≡ rows_of c.slots c.bindings = ap (λ (s : Slots). rows_of s c'.bindings) same.slots ∙ ap (λ (bs : List Binding). rows_of c.slots bs) same.bindings in
    record {
      policies = λ url. ap (λ (s : Slots). policy_held s url) same.slots ∙ k.policies url;
      bindings = subst (λ (bs : List Binding). HaveSame bs (desk_bindings d)) (sym same.bindings) k.bindings;
      rows = record { ascend = subst (SortKeysAscend binding_sort_key) (sym same.bindings) k.rows.ascend; rows = same.rows ∙ k.rows.rows ∙ sym rows };
    }

-- ---- Bindings go and come

module _ (before after : DeskTables) (sound : IsSound before) (sound' : IsSound after) (same : (url : List ℕ) → policy_at after url ≡ policy_at before url) (gone come : List Binding) (change : IsBindingChange (desk_bindings before) (desk_bindings after) gone come) where
  pub member_compiled : (c c' : CompiledState) (plan : Plan) → IsCompiledOf before c → IsMemberPlan gone come c plan → IsCommitted plan c c' → IsCompiledOf after c'
  unfolding desk_bindings
  member_compiled c c' plan k m made =
      let bindings : c'.bindings ≡ replaced gone come c.bindings = made.bindings ∙ m.bindings in
      let slots : c'.slots ≡ c.slots = made.slots ∙ m.slots in
      record {
        policies = λ url. ap (λ (s : Slots). policy_held s url) slots ∙ k.policies url ∙ sym (same url);
        bindings = subst (λ (bs : List Binding). HaveSame bs (bindings_of after.tables)) (sym bindings)
            (replaced_same c.bindings (bindings_of before.tables) (bindings_of after.tables) gone come k.rows.ascend k.bindings (bindings_apart before.tables sound.tables) (bindings_apart after.tables sound'.tables) change);
        rows = record { ascend = subst (SortKeysAscend binding_sort_key) (sym bindings) (ascend-replaced gone come c.bindings k.rows.ascend); rows = made.rows };
      }

-- ---- A policy comes or goes

policy_case : (url u : List ℕ) (policy : Option Policy) (slots slots' : Slots) → policy_held slots' url ≡ policy → ((x : List ℕ) → bytes_eq url x ≡ false → policy_held slots' x ≡ policy_held slots x) → (b : Bool) → bytes_eq url u ≡ b → policy_held slots' u ≡ cond b policy (policy_held slots u)
policy_case url u policy slots slots' here others true e = subst (λ (x : List ℕ). policy_held slots' x ≡ policy) (same_octets url u e) here
policy_case url u policy slots slots' here others false e = others u e

pub policy_compiled : (before after : DeskTables) (url : List ℕ) (policy : Option Policy) → desk_bindings after ≡ desk_bindings before → ((u : List ℕ) → policy_at after u ≡ cond (bytes_eq url u) policy (policy_at before u))
    → (c c' : CompiledState) (plan : Plan) → IsCompiledOf before c → IsPolicyPlan url policy c plan → IsCommitted plan c c' → IsCompiledOf after c'
unfolding bindings_after edited
policy_compiled before after url policy same policies c c' plan k p made =
    let none : bindings_after plan c ≡ c.bindings = ap (λ (es : List (Edit Binding)). edited binding_sort_key es c.bindings) p.bindings in
    let bindings : c'.bindings ≡ c.bindings = made.bindings ∙ none in
    let held : (u : List ℕ) → policy_held (slots_after plan c) u ≡ cond (bytes_eq url u) policy (policy_held c.slots u) = λ u. policy_case url u policy c.slots (slots_after plan c) p.here p.others (bytes_eq url u) refl in
    record {
      policies = λ u. ap (λ (s : Slots). policy_held s u) made.slots ∙ held u ∙ ap (λ (o : Option Policy). cond (bytes_eq url u) policy o) (k.policies u) ∙ sym (policies u);
      bindings = subst (λ (bs : List Binding). HaveSame bs (desk_bindings after)) (sym bindings) (subst (λ (bs : List Binding). HaveSame c.bindings bs) (sym same) k.bindings);
      rows = record { ascend = subst (SortKeysAscend binding_sort_key) (sym bindings) k.rows.ascend; rows = made.rows };
    }
