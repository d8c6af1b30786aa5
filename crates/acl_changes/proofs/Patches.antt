-- Rows that are edited where the expiries differ are the rows made anew.
use Rattle.std.proofs.Common.{◌≡◌, ℕ, Bool, true, false, cond, List, [], ◌∷◌, Option, Some, None, refl, sym, ap, subst, ◌∙◌}
use Rattle.std.specs.Option.{option_map, option_map_or}
use Rattle.std.specs.List.{AllByRecursion}
use Rattle.std.proofs.lemmas.Option.{same_Some, none-some}
use Rattle.base_rows.specs.Sortable.{same_sort_key, row_at}
use Rattle.base_rows.proofs.RowLaws.{sort_key_row_at}
use Rattle.base_rows.proofs.RowSets.{same_rows_by}
use Rattle.mud_base.specs.declared.addr.Addr.{Addr}
use Rattle.mud_base.specs.declared.packet.Direction.{Direction}
use Rattle.acl_model.specs.declared.binding.Binding.{Binding}
use Rattle.base_rows.specs.declared.edit.Edit.{Edit}
use Rattle.base_rows.specs.Edits.{edit_sort_key, row_after, edited}
use Rattle.base_rows.proofs.EditLaws.{ascend-edited, row_at-edited}
use Rattle.acl_rows.specs.declared.row.Owner.{Owner}
use Rattle.acl_rows.specs.declared.row.Row.{Row}
use Rattle.acl_rows.specs.SortKeys.{row_sort_key, sort_key_at}
use Rattle.acl_rows.specs.Rows.{row, Slots, rows_of, expiry_at}
use Rattle.acl_rows.proofs.Coordinates.{AreSame, same_coordinates}
use Rattle.acl_rows.proofs.AtSortKeys.{row_at-rows_of, ascend-rows_of}
use Rattle.acl_changes.specs.Patch.{edit_expiry, expiry_for, IsPatch}

-- what holds of all rows holds of the row of a sort key
module _ {R : Type 0} (sort_key : R → List ℕ) (P : R → Type 0) where
  all_by : (p : List ℕ) (x r : R) (xs : List R) → P x → (row_at sort_key p xs ≡ Some r → P r) → (b : Bool) → cond b (Some x) (row_at sort_key p xs) ≡ Some r → P r
  all_by p x r xs here rest true is = subst P (same_Some x r is) here
  all_by p x r xs here rest false is = rest is

  pub all-row_at : (p : List ℕ) (rows : List R) (r : R) → AllByRecursion P rows → row_at sort_key p rows ≡ Some r → P r
  all-row_at p [] r all is = absurd (none-some r is)
  all-row_at p (x ∷ xs) r all is = all_by p x r xs all.0 (all-row_at p xs r all.1) (same_sort_key (sort_key x) p) is

row_by_expiry : (e : Edit Row) (b : Bool) → cond b (Some e.row) None ≡ option_map (row e.row.owner e.row.side e.row.addr e.row.entry) (cond b (Some e.row.until) None)
unfolding row
row_by_expiry e true = refl
row_by_expiry e false = refl

-- the row that stands at the sort key of an edit afterwards, by its expiry
row_after-end : (e : Edit Row) → row_after e ≡ option_map (row e.row.owner e.row.side e.row.addr e.row.entry) (edit_expiry e)
unfolding row_after edit_expiry
row_after-end e = row_by_expiry e e.comes

module _ (slots : Slots) (bindings : List Binding) (slots' : Slots) (bindings' : List Binding) (edits : List (Edit Row)) (patch : IsPatch slots bindings slots' bindings' edits) where
  module _ (owner : Owner) (side : Direction) (a : Addr) (n : ℕ) where
    -- an edit at a sort key says what is asked there
    said : (e : Edit Row) → row_at (edit_sort_key row_sort_key) (sort_key_at owner side a n) edits ≡ Some e → row_after e ≡ option_map (row owner side a n) (expiry_at slots' bindings' owner side a n)
    unfolding edit_sort_key row_sort_key expiry_for
    said e is =
        let at : sort_key_at e.row.owner e.row.side e.row.addr e.row.entry ≡ sort_key_at owner side a n = sort_key_row_at (edit_sort_key row_sort_key) (sort_key_at owner side a n) edits e is in
        let same : AreSame e.row.owner owner e.row.side side e.row.addr a e.row.entry n = same_coordinates e.row.owner owner e.row.side side e.row.addr a e.row.entry n at in
        let end : edit_expiry e ≡ expiry_for slots' bindings' e.row = all-row_at (edit_sort_key row_sort_key) (λ (x : Edit Row). edit_expiry x ≡ expiry_for slots' bindings' x.row) (sort_key_at owner side a n) edits e patch.each is in
        row_after-end e
        ∙ ap (option_map (row e.row.owner e.row.side e.row.addr e.row.entry)) end
        ∙ (λ i. option_map (row (same.owner i) (same.side i) (same.addr i) (same.number i)) (expiry_at slots' bindings' (same.owner i) (same.side i) (same.addr i) (same.number i)))

    said_by : (o : Option (Edit Row)) → row_at (edit_sort_key row_sort_key) (sort_key_at owner side a n) edits ≡ o → option_map_or row_after o (row_at row_sort_key (sort_key_at owner side a n) (rows_of slots bindings)) ≡ option_map (row owner side a n) (expiry_at slots' bindings' owner side a n)
    said_by None is = row_at-rows_of slots bindings owner side a n ∙ ap (option_map (row owner side a n)) (sym (patch.rest owner side a n is))
    said_by (Some e) is = said e is

    edited_alike : row_at row_sort_key (sort_key_at owner side a n) (edited row_sort_key edits (rows_of slots bindings)) ≡ row_at row_sort_key (sort_key_at owner side a n) (rows_of slots' bindings')
    edited_alike =
        row_at-edited row_sort_key (sort_key_at owner side a n) edits (rows_of slots bindings) (ascend-rows_of slots bindings)
        ∙ said_by (row_at (edit_sort_key row_sort_key) (sort_key_at owner side a n) edits) refl
        ∙ sym (row_at-rows_of slots' bindings' owner side a n)

  -- the patched rows are the rows made anew
  pub patched : edited row_sort_key edits (rows_of slots bindings) ≡ rows_of slots' bindings'
  unfolding row_sort_key
  patched =
      same_rows_by row_sort_key (edited row_sort_key edits (rows_of slots bindings)) (rows_of slots' bindings') (ascend-edited row_sort_key edits (rows_of slots bindings) (ascend-rows_of slots bindings)) (ascend-rows_of slots' bindings')
      (λ (r : Row). edited_alike r.owner r.side r.addr r.entry)
