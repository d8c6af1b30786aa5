-- The edits of what goes, and then of what comes, are the patch of a change.
use Rattle.std.proofs.Common.{◌≡◌, ℕ, ◌+◌, ◌*◌, ◌^◌, ◌<◌, ◌≤◌, List, [], ◌++◌, length, sym, ap, subst, ◌∙◌}
use Rattle.std.proofs.lemmas.Grind.{flat_map-append}
use Rattle.base_rows.specs.Sortable.{SortKeysAscend}
use Rattle.acl_model.specs.declared.binding.Binding.{Binding}
use Rattle.base_rows.specs.declared.edit.Edit.{Edit}
use Rattle.acl_rows.specs.declared.row.Row.{Row}
use Rattle.acl_model.specs.SortKeys.{binding_sort_key}
use Rattle.acl_rows.specs.Rows.{Slots}
use Rattle.acl_changes.specs.Patch.{IsPatch}
use Rattle.acl_rows.specs.declared.row.RowKey.{RowKey}
use Rattle.acl_changes.specs.Touched.{binding_touches, touches}
use Rattle.acl_changes.specs.Change.{ChangeState, after, more_edits}
use Rattle.acl_changes.specs.Policies.{AllHeld}
use Rattle.acl_changes.specs.Steps.{HolderFits}
use Rattle.acl_changes.proofs.Edits.{bindings_patch}
use Rattle.acl_changes.proofs.Loops.{more_edits-append}

pub touches-append : (slots : Slots) (gone come : List Binding) → touches slots (gone ++ come) ≡ touches slots gone ++ touches slots come
unfolding touches
touches-append slots gone come = flat_map-append (binding_touches slots) gone come

pub planned : (c : ChangeState) (edits : List (Edit Row)) → SortKeysAscend binding_sort_key c.bindings → edits ≡ more_edits c (touches c.slots c.come) (more_edits c (touches c.slots c.gone) []) → IsPatch c.slots c.bindings c.slots (after c) edits
unfolding more_edits after
planned c edits up is =
    subst (IsPatch c.slots c.bindings c.slots (after c))
    (sym (is ∙ sym (more_edits-append c (touches c.slots c.gone) (touches c.slots c.come) []) ∙ ap (λ (ts : List RowKey). more_edits c ts []) (sym (touches-append c.slots c.gone c.come))))
    (bindings_patch c.slots c.gone c.come c.bindings up)

-- the bound of a plan, said of equal states
pub most_moved : (s t : ChangeState) → s ≡ t → (start end : ℕ) → ((b k u : ℕ) → length s.bindings < 2 ^ b → length s.rows < 2 ^ k → AllHeld s.slots (λ h. HolderFits h b k u) → end ≤ start + length (touches s.slots (s.gone ++ s.come)) * u)
    → (b k u : ℕ) → length t.bindings < 2 ^ b → length t.rows < 2 ^ k → AllHeld t.slots (λ h. HolderFits h b k u) → end ≤ start + length (touches t.slots (t.gone ++ t.come)) * u
most_moved s t same start end most b k u few rows fit = subst (λ (x : ChangeState). end ≤ start + length (touches x.slots (x.gone ++ x.come)) * u) same (most b k u (subst (λ (x : ChangeState). length x.bindings < 2 ^ b) (sym same) few) (subst (λ (x : ChangeState). length x.rows < 2 ^ k) (sym same) rows) (subst (λ (x : ChangeState). AllHeld x.slots (λ h. HolderFits h b k u)) (sym same) fit))
