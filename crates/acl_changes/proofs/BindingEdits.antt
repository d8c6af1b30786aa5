-- The edits of bindings that go and come.
use Rattle.std.proofs.Common.{◌≡◌, ℕ, suc, ◌+◌, ◌≤◌, ◌<◌, min, Bool, true, false, List, [], ◌∷◌, ◌++◌, map, length, take, drop, get_or, Result, refl, sym, ap, subst, ◌∙◌, arith}
use Rattle.std.proofs.Math.Seq.{drop-cons}
use Rattle.std.specs.Prelude.{sum_by}
use Rattle.std.proofs.lemmas.List.{length-map, drop_all, take-append-drop}
use Rattle.std.proofs.lemmas.List.Sums.{sum_by-append, sum_by-cons}
use Rattle.base_rows.specs.Sortable.{set_row, set_rows, SortKeysAscend}
use Rattle.base_rows.proofs.SortableLaws.{ascend-set_row, ascend-set_rows}
use Rattle.base_rows.proofs.RowLaws.{all-set_row, length-set_rows_le}
use Rattle.acl_model.specs.declared.binding.Binding.{Binding}
use Rattle.acl_model.specs.SortKeys.{binding_sort_key}
use Rattle.acl_model.specs.Changes.{without_bindings, replaced}
use Rattle.base_rows.specs.declared.edit.Edit.{Edit}
use Rattle.base_rows.specs.Edits.{edit, edit_sort_key, edit_made, edited}
use Rattle.base_rows.proofs.EditLaws.{edited-set_row}
use Rattle.acl_buckets.specs.BindingBuckets.{index_by_key, bindings_of_key, AreFoundByKey}
use Rattle.acl_changes.specs.Bindings.{binding_edit, AreEditsOf}
use Rattle.acl_changes.specs.Steps.{least_look, least_looks}

module _ (bindings : List Binding) (up : SortKeysAscend binding_sort_key bindings) where
  abbrev Edits : Type 0
  Edits = List (Edit Binding)

  abbrev put : Edits → Edits → Edits
  put new es = set_rows (edit_sort_key binding_sort_key) new es

  gone_made : (gone : List Binding) (es : Edits) → SortKeysAscend (edit_sort_key binding_sort_key) es → edited binding_sort_key (put (map (binding_edit bindings false) gone) es) bindings ≡ without_bindings gone (edited binding_sort_key es bindings)
  unfolding without_bindings edit_made binding_edit
  gone_made [] es up' = refl
  gone_made (b ∷ gone) es up' =
      gone_made gone (set_row (edit_sort_key binding_sort_key) (binding_edit bindings false b) es) (ascend-set_row (edit_sort_key binding_sort_key) (binding_edit bindings false b) es up')
      ∙ ap (without_bindings gone) (edited-set_row binding_sort_key (binding_edit bindings false b) es bindings up up')

  come_made : (come : List Binding) (es : Edits) → SortKeysAscend (edit_sort_key binding_sort_key) es → edited binding_sort_key (put (map (binding_edit bindings true) come) es) bindings ≡ set_rows binding_sort_key come (edited binding_sort_key es bindings)
  unfolding edit_made binding_edit
  come_made [] es up' = refl
  come_made (b ∷ come) es up' =
      come_made come (set_row (edit_sort_key binding_sort_key) (binding_edit bindings true b) es) (ascend-set_row (edit_sort_key binding_sort_key) (binding_edit bindings true b) es up')
      ∙ ap (set_rows binding_sort_key come) (edited-set_row binding_sort_key (binding_edit bindings true b) es bindings up up')

  found_all : (comes : Bool) (bs : List Binding) (es : Edits) → AreFoundByKey bindings es → AreFoundByKey bindings (put (map (binding_edit bindings comes) bs) es)
  unfolding binding_edit
  found_all comes [] es found = found
  found_all comes (b ∷ bs) es found =
      found_all comes bs (set_row (edit_sort_key binding_sort_key) (binding_edit bindings comes b) es)
      (all-set_row (edit_sort_key binding_sort_key) (λ (e : Edit Binding). e.found ≡ index_by_key e.row bindings) (binding_edit bindings comes b) es refl found)

pub are_edits : (gone come bindings : List Binding) (edits : List (Edit Binding)) → SortKeysAscend binding_sort_key bindings
    → edits ≡ set_rows (edit_sort_key binding_sort_key) (map (binding_edit bindings true) come) (set_rows (edit_sort_key binding_sort_key) (map (binding_edit bindings false) gone) []) → AreEditsOf gone come bindings edits
unfolding replaced edited
are_edits gone come bindings edits up is =
    let first : List (Edit Binding) = set_rows (edit_sort_key binding_sort_key) (map (binding_edit bindings false) gone) [] in
    subst (AreEditsOf gone come bindings) (sym is) (record {
      made =
          come_made bindings up come first (ascend-set_rows (edit_sort_key binding_sort_key) (map (binding_edit bindings false) gone) [] tt)
          ∙ ap (set_rows binding_sort_key come) (gone_made bindings up gone [] tt);
      few = omega (arith, length-set_rows_le (edit_sort_key binding_sort_key) (map (binding_edit bindings true) come) first, length-set_rows_le (edit_sort_key binding_sort_key) (map (binding_edit bindings false) gone) [], length-map come (binding_edit bindings true), length-map gone (binding_edit bindings false));
      found = found_all bindings up true come first (found_all bindings up false gone [] tt);
    })

-- the next binding, and those behind it
pub next_edit : (f : Binding → Edit Binding) (bs : List Binding) (i : ℕ) (b : Binding) (es : List (Edit Binding)) → i < length bs → b ≡ get_or bs i b
    → set_rows (edit_sort_key binding_sort_key) (map f (drop i bs)) es ≡ set_rows (edit_sort_key binding_sort_key) (map f (drop (i + 1) bs)) (set_row (edit_sort_key binding_sort_key) (f b) es)
next_edit f bs i b es lt is =
    ap (λ (xs : List Binding). set_rows (edit_sort_key binding_sort_key) (map f xs) es) (drop-cons bs i b lt ∙ (λ j. sym is j ∷ drop (next j) bs))
  where
    next : suc i ≡ i + 1
    next = omega arith

-- one more is planned
pub one_planned : (bindings : List Binding) (comes : Bool) (b copy : Binding) (found : Result ℕ ℕ) (es : List (Edit Binding)) → copy ≡ b → found ≡ index_by_key b bindings
    → set_row (edit_sort_key binding_sort_key) (edit copy comes found) es ≡ set_row (edit_sort_key binding_sort_key) (binding_edit bindings comes b) es
unfolding binding_edit
one_planned bindings comes b copy found es same is = (λ j. set_row (edit_sort_key binding_sort_key) (edit (same j) comes (is j)) es)

-- ---- How often bindings are looked for

pub next_look : (bindings bs : List Binding) (i : ℕ) (b : Binding) → i < length bs → b ≡ get_or bs i b → least_looks bindings (drop i bs) ≡ least_look bindings b + least_looks bindings (drop (i + 1) bs)
unfolding least_looks
next_look bindings bs i b lt is =
    ap (sum_by (least_look bindings)) (drop-cons bs i b lt ∙ (λ j. sym is j ∷ drop (next j) bs))
    ∙ sum_by-cons (least_look bindings) b (drop (i + 1) bs)
  where
    next : suc i ≡ i + 1
    next = omega arith

pub one_look : (bindings : List Binding) (b : Binding) (s s' : ℕ) → s + min 1 (length (bindings_of_key b.key bindings)) ≤ s' → s + least_look bindings b ≤ s'
unfolding least_look
one_look bindings b s s' least = least

pub no_look : (bindings bs : List Binding) (i : ℕ) → length bs ≤ i → least_looks bindings (drop i bs) ≡ 0
unfolding least_looks
no_look bindings bs i past = ap (sum_by (least_look bindings)) (drop_all i bs past)

-- those of both halves
pub looks_of_halves : (bindings : List Binding) (n : ℕ) (all front behind : List Binding) (s s' s'' : ℕ) → front ≡ take n all → behind ≡ drop n all → s + least_looks bindings front ≤ s' → s' + least_looks bindings behind ≤ s'' → s + least_looks bindings all ≤ s''
unfolding least_looks
looks_of_halves bindings n all front behind s s' s'' a b first second =
    let both = ap (sum_by (least_look bindings)) (sym (take-append-drop n all) ∙ (λ i. sym a i ++ sym b i)) ∙ sum_by-append (least_look bindings) front behind in
    omega (arith, both, first, second)
