-- Rows that are put in and taken away keep what holds of all rows, their order, and their bound.
use Rattle.std.proofs.Common.{◌≡◌, ℕ, ◌+◌, ◌≤◌, ◌<◌, Bool, true, false, cond, List, [], ◌∷◌, length, Some, Result, Ok, Err, refl, sym, ap, subst, ◌∙◌, arith}
use Rattle.std.specs.Prelude.{find}
use Rattle.std.specs.List.{remove, AllByRecursion}
use Rattle.std.proofs.lemmas.Option.{same_Some, none-some}
use Rattle.std.proofs.lemmas.List.Edits.{length-remove}
use Rattle.base_rows.specs.Sortable.{same_sort_key, SortKeysAscend, row_at, index_in, set_row, without_row}
use Rattle.base_rows.proofs.SortableLaws.{ascend-set_row, ascend-without_row, row_at_missed, without_row_found, same_sort_key_itself, index_in_within, IsIndexOf}
use Rattle.base_rows.proofs.RowLaws.{all-set_row, all-without_row, length-set_row, length-without_row}
use Rattle.base_rows.proofs.RowSets.{at_later}
use Rattle.table_model.proofs.LeaseLaws.{set_row_long}

module _ {R : Type 0} (sort_key : R → List ℕ) (Good : R → Type 0) (most : ℕ) where
  pub record AreSoundRows (rows : List R) : Type 0 where
    pub ascend : SortKeysAscend sort_key rows
    pub each : AllByRecursion Good rows
    pub few : length rows ≤ most

  pub put_row : (row : R) (rows : List R) → AreSoundRows rows → Good row → length (set_row sort_key row rows) ≤ most → AreSoundRows (set_row sort_key row rows)
  put_row row rows sound fine few = record { ascend = ascend-set_row sort_key row rows sound.ascend; each = all-set_row sort_key Good row rows fine sound.each; few = few }

  pub put_new_row : (row : R) (rows : List R) → AreSoundRows rows → Good row → length rows < most → AreSoundRows (set_row sort_key row rows)
  put_new_row row rows sound fine room = put_row row rows sound fine (omega (arith, room, (length-set_row sort_key row rows).grown))

  pub put_there_row : (row old : R) (rows : List R) → AreSoundRows rows → Good row → row_at sort_key (sort_key row) rows ≡ Some old → AreSoundRows (set_row sort_key row rows)
  put_there_row row old rows sound fine there = put_row row rows sound fine (subst (λ n. n ≤ most) (sym (set_row_long sort_key row rows sound.ascend (λ none. none-some old (sym none ∙ there)))) sound.few)

  pub without_sound_row : (p : List ℕ) (rows : List R) → AreSoundRows rows → AreSoundRows (without_row sort_key p rows)
  without_sound_row p rows sound = record { ascend = ascend-without_row sort_key p rows sound.ascend; each = all-without_row sort_key Good p rows sound.each; few = omega (arith, sound.few, (length-without_row sort_key p rows).kept) }

-- one row less where the sort key has one
pub without_row_short : {R : Type 0} (sort_key : R → List ℕ) (p : List ℕ) (rows : List R) (old : R) → SortKeysAscend sort_key rows → row_at sort_key p rows ≡ Some old → length (without_row sort_key p rows) < length rows
without_row_short sort_key p rows old up there = by_index (index_in sort_key p rows) refl (index_in_within sort_key p rows)
  where
    by_index : (r : Result ℕ ℕ) → index_in sort_key p rows ≡ r → IsIndexOf sort_key rows (index_in sort_key p rows) → length (without_row sort_key p rows) < length rows
    by_index (Ok i) is within =
        let short : length (remove rows i) + 1 ≡ length rows = length-remove rows i (subst (IsIndexOf sort_key rows) is within) in
        subst (λ rs. length rs < length rows) (sym (without_row_found sort_key p rows i is)) (omega (arith, short))
    by_index (Err i) is within = absurd (none-some old (sym (row_at_missed sort_key p rows i up is) ∙ there))

pub found_there : {R : Type 0} (sort_key : R → List ℕ) (test : R → Bool) (rows : List R) (x : R) → SortKeysAscend sort_key rows → find test rows ≡ Some x → row_at sort_key (sort_key x) rows ≡ Some x
found_there sort_key test [] x up e = absurd (none-some x e)
found_there {R = R} sort_key test (y ∷ ys) x up e = by_test (test y) e (λ e'. at_later sort_key (sort_key x) y x ys up.0 (found_there sort_key test ys x up.1 e') (same_sort_key (sort_key y) (sort_key x)) refl)
  where
    by_test : (b : Bool) → cond b (Some y) (find test ys) ≡ Some x → (find test ys ≡ Some x → row_at sort_key (sort_key x) (y ∷ ys) ≡ Some x) → row_at sort_key (sort_key x) (y ∷ ys) ≡ Some x
    by_test true is later = ap (λ b. cond b (Some y) (row_at sort_key (sort_key x) ys)) (ap (λ z. same_sort_key (sort_key y) (sort_key z)) (sym (same_Some y x is)) ∙ same_sort_key_itself (sort_key y)) ∙ is
    by_test false is later = later is
