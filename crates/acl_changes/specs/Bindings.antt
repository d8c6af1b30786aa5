-- The edits of a change of bindings.
use Rattle.std.specs.Prelude.{◌≡◌, ◌+◌, ◌≤◌, Bool, List, length}
use Rattle.acl_model.specs.declared.binding.Binding.{Binding}
use Rattle.acl_model.specs.SortKeys.{binding_sort_key}
use Rattle.acl_model.specs.Changes.{replaced}
use Rattle.base_rows.specs.declared.edit.Edit.{Edit}
use Rattle.base_rows.specs.Edits.{edit, edited}
use Rattle.acl_buckets.specs.BindingBuckets.{index_by_key, AreFoundByKey}

-- the edit of a binding that comes or goes, among these
unfoldable pub binding_edit : List Binding → Bool → Binding → Edit Binding
binding_edit bindings comes b = edit b comes (index_by_key b bindings)

-- With the edits these bindings have gone and those have come. There are no more edits than bindings that go or come, and
-- each has the index of its sort key among the bindings of its key.
pub record AreEditsOf (gone come bindings : List Binding) (edits : List (Edit Binding)) : Type 0 where
  pub made : edited binding_sort_key edits bindings ≡ replaced gone come bindings
  pub few : length edits ≤ length gone + length come
  pub found : AreFoundByKey bindings edits
