-- What stands at a sort key after bindings went and came.
use Rattle.std.proofs.Common.{◌≡◌, ℕ, List, Option, Some, None, sym, ap, ◌∙◌}
use Rattle.std.specs.Option.{option_map, option_map_or}
use Rattle.base_rows.specs.Sortable.{row_at, SortKeysAscend}
use Rattle.acl_model.specs.declared.binding.Binding.{Binding}
use Rattle.acl_model.specs.SortKeys.{binding_sort_key}
use Rattle.acl_model.specs.Changes.{until_of, replaced}
use Rattle.base_rows.specs.declared.edit.Edit.{Edit}
use Rattle.base_rows.specs.Edits.{edit_sort_key, row_after, edited}
use Rattle.base_rows.proofs.EditLaws.{row_at-edited}
use Rattle.acl_changes.specs.Change.{expiry_in}

module _ (p : List ℕ) (edits : List (Edit Binding)) (gone come bindings : List Binding) (up : SortKeysAscend binding_sort_key bindings) (made : edited binding_sort_key edits bindings ≡ replaced gone come bindings) where
  -- the expiry at a sort key is that of its edit, or else the one that is kept
  expiry_by : (e : Option (Edit Binding)) → e ≡ row_at (edit_sort_key binding_sort_key) p edits → option_map until_of (option_map_or row_after e (row_at binding_sort_key p bindings)) ≡ expiry_in p (replaced gone come bindings)
  expiry_by e is =
      ap (λ (x : Option (Edit Binding)). option_map until_of (option_map_or row_after x (row_at binding_sort_key p bindings))) is
      ∙ sym (ap (option_map until_of) (row_at-edited binding_sort_key p edits bindings up))
      ∙ ap (expiry_in p) made

  pub expiry_edited : (e : Edit Binding) (result : Option ℕ) → (let o : Option (Edit Binding) = Some e in o ≡ row_at (edit_sort_key binding_sort_key) p edits) → result ≡ option_map until_of (row_after e) → result ≡ expiry_in p (replaced gone come bindings)
  expiry_edited e result is end = end ∙ expiry_by (Some e) is

  pub expiry_kept : (result : Option ℕ) → (let o : Option (Edit Binding) = None in o ≡ row_at (edit_sort_key binding_sort_key) p edits) → result ≡ expiry_in p bindings → result ≡ expiry_in p (replaced gone come bindings)
  expiry_kept result is end = end ∙ expiry_by None is
