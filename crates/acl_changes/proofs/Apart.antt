-- A patch has no more edits than there are rows in the old or the new list and not in both.
use Rattle.std.proofs.Common.{◌≡◌, ℕ, ◌+◌, ◌≤◌, Bool, true, false, cond, List, [], ◌∷◌, length, Option, Some, None, refl, sym, ap, ◌∙◌, arith}
use Rattle.std.specs.Prelude.{◌≢◌, filter, not, nat_eq}
use Rattle.std.specs.Option.{option_map, option_map_or}
use Rattle.std.specs.List.{list_any, AllByRecursion}
use Rattle.std.proofs.lemmas.Bool.{false≢true, eqb-true}
use Rattle.std.proofs.lemmas.Option.{none-some}
use Rattle.base_rows.specs.Sortable.{same_sort_key, row_at}
use Rattle.base_rows.proofs.RowLaws.{ascend-filter}
use Rattle.base_rows.proofs.RowSets.{tested_at, kept_at, covered}
use Rattle.acl_model.specs.declared.binding.Binding.{Binding}
use Rattle.base_rows.specs.declared.edit.Edit.{Edit}
use Rattle.base_rows.specs.Edits.{edit_sort_key}
use Rattle.acl_rows.specs.declared.row.Row.{Row}
use Rattle.acl_rows.specs.SortKeys.{row_sort_key}
use Rattle.acl_rows.specs.Rows.{row, Slots, rows_of, expiry_at}
use Rattle.acl_rows.proofs.AtSortKeys.{row_at-rows_of, ascend-rows_of}
use Rattle.acl_changes.specs.Patch.{edit_expiry, expiry_for, IsPatch, same_row, is_missing, rows_apart}

-- ---- Edits

-- a row is missing where another expiry stands at its sort key, or none
missing_by : (u : ℕ) (o : Option ℕ) (b : Bool) → o ≢ Some u → b ≡ option_map_or (λ v. nat_eq v u) o false → not b ≡ true
missing_by u None b other is = ap not is
missing_by u (Some v) b other is = by (nat_eq v u) refl
  where
    by : (c : Bool) → nat_eq v u ≡ c → not b ≡ true
    by true same = absurd (other (ap Some (eqb-true v u same)))
    by false same = ap not (is ∙ same)

module _ (slots : Slots) (bindings : List Binding) (e : Row) where
  the_row : ℕ → Row
  the_row u = row e.owner e.side e.addr e.entry u

  found : (u : ℕ) → expiry_for slots bindings e ≡ Some u → row_at row_sort_key (row_sort_key e) (rows_of slots bindings) ≡ Some (row e.owner e.side e.addr e.entry u)
  unfolding row_sort_key expiry_for
  found u is = row_at-rows_of slots bindings e.owner e.side e.addr e.entry ∙ ap (option_map (row e.owner e.side e.addr e.entry)) is

  until_row : (u : ℕ) (o : Option ℕ) → option_map_or (λ (x : Row). nat_eq x.until u) (option_map (row e.owner e.side e.addr e.entry) o) false ≡ option_map_or (λ v. nat_eq v u) o false
  unfolding row
  until_row u None = refl
  until_row u (Some v) = refl

  missing : (u : ℕ) → expiry_for slots bindings e ≢ Some u → is_missing (rows_of slots bindings) (row e.owner e.side e.addr e.entry u) ≡ true
  unfolding is_missing same_row expiry_for row row_sort_key
  missing u other =
      missing_by u (expiry_at slots bindings e.owner e.side e.addr e.entry) _ other
      (tested_at row_sort_key (row_sort_key e) (λ x. nat_eq x.until u) (rows_of slots bindings) (ascend-rows_of slots bindings)
      ∙ ap (λ (o : Option Row). option_map_or (λ x. nat_eq x.until u) o false) (row_at-rows_of slots bindings e.owner e.side e.addr e.entry)
      ∙ until_row u (expiry_at slots bindings e.owner e.side e.addr e.entry))

module _ (slots : Slots) (bindings : List Binding) (slots' : Slots) (bindings' : List Binding) where
  abbrev Covers : List Row → Edit Row → Type 0
  Covers rows e = list_any (λ r. same_sort_key (row_sort_key r) (edit_sort_key row_sort_key e)) rows ≡ true

  abbrev old : List Row
  old = rows_of slots bindings

  abbrev new : List Row
  new = rows_of slots' bindings'

  abbrev Says : Edit Row → Type 0
  Says e = edit_expiry e ≡ expiry_for slots' bindings' e.row

  abbrev IsOther : Edit Row → Type 0
  IsOther e = edit_expiry e ≢ expiry_for slots bindings e.row

  coming_expiry : (e : Edit Row) → e.comes ≡ true → edit_expiry e ≡ Some e.row.until
  unfolding edit_expiry
  coming_expiry e comes = ap (λ (b : Bool). cond b (Some e.row.until) None) comes

  going_expiry : (e : Edit Row) → e.comes ≡ false → edit_expiry e ≡ None
  unfolding edit_expiry
  going_expiry e goes = ap (λ (b : Bool). cond b (Some e.row.until) None) goes

  put_covers : (e : Edit Row) → e.comes ≡ true → Says e → IsOther e → Covers (filter (is_missing old) new) e
  unfolding edit_sort_key
  put_covers e comes says other =
      let is : edit_expiry e ≡ Some e.row.until = coming_expiry e comes in
      kept_at row_sort_key (row_sort_key e.row) (is_missing old) (row e.row.owner e.row.side e.row.addr e.row.entry e.row.until) new (missing slots bindings e.row e.row.until (λ same. other (is ∙ sym same))) (found slots' bindings' e.row e.row.until (sym says ∙ is))

  take_by : (e : Edit Row) (o : Option ℕ) → expiry_for slots bindings e.row ≡ o → edit_expiry e ≡ None → Says e → IsOther e → Covers (filter (is_missing new) old) e
  unfolding edit_sort_key
  take_by e None was is says other = absurd (other (is ∙ sym was))
  take_by e (Some u) was is says other =
      kept_at row_sort_key (row_sort_key e.row) (is_missing new) (row e.row.owner e.row.side e.row.addr e.row.entry u) old (missing slots' bindings' e.row u (λ same. none-some u (sym (sym says ∙ is) ∙ same))) (found slots bindings e.row u was)

  take_covers : (e : Edit Row) → e.comes ≡ false → Says e → IsOther e → Covers (filter (is_missing new) old) e
  take_covers e goes says other = take_by e (expiry_for slots bindings e.row) refl (going_expiry e goes) says other

  puts : Edit Row → Bool
  puts e = e.comes

  takes : Edit Row → Bool
  takes e = not e.comes

  all_first : (test : Edit Row → Bool) (P : Edit Row → Type 0) (e : Edit Row) (es : List (Edit Row)) → (test e ≡ true → Says e → IsOther e → P e) → Says e → IsOther e → AllByRecursion P (filter test es) → (b : Bool) → test e ≡ b → AllByRecursion P (cond b (e ∷ filter test es) (filter test es))
  all_first test P e es one is other rest true passes = (one passes is other, rest)
  all_first test P e es one is other rest false passes = rest

  all_filter : (test : Edit Row → Bool) (P : Edit Row → Type 0) → ((e : Edit Row) → test e ≡ true → Says e → IsOther e → P e) → (es : List (Edit Row)) → AllByRecursion Says es → AllByRecursion IsOther es → AllByRecursion P (filter test es)
  all_filter test P each [] all other = tt
  all_filter test P each (e ∷ es) all other = all_first test P e es (each e) all.0 other.0 (all_filter test P each es all.1 other.1) (test e) refl

  not_comes : (b : Bool) → not b ≡ true → b ≡ false
  not_comes true e = absurd (false≢true e)
  not_comes false e = refl

  count_by : (e : Edit Row) (es : List (Edit Row)) (b : Bool) → length es ≡ length (filter puts es) + length (filter takes es) → length (e ∷ es) ≡ length (cond b (e ∷ filter puts es) (filter puts es)) + length (cond (not b) (e ∷ filter takes es) (filter takes es))
  count_by e es true rest = omega arith
  count_by e es false rest = omega arith

  count : (es : List (Edit Row)) → length es ≡ length (filter puts es) + length (filter takes es)
  unfolding puts takes
  count [] = refl
  count (e ∷ es) = count_by e es e.comes (count es)

  -- each edit stands for a row that is in one list and not in both
  pub few_edits : (edits : List (Edit Row)) → IsPatch slots bindings slots' bindings' edits → length edits ≤ rows_apart old new
  unfolding rows_apart puts takes
  few_edits edits patch =
      let come : length (filter puts edits) ≤ length (filter (is_missing old) new) =
      covered (edit_sort_key row_sort_key) row_sort_key (filter (is_missing old) new) (filter puts edits) (ascend-filter (edit_sort_key row_sort_key) puts edits patch.ascend) (ascend-filter row_sort_key (is_missing old) new (ascend-rows_of slots' bindings'))
      (all_filter puts (Covers (filter (is_missing old) new)) put_covers edits patch.each patch.change) in
      let go : length (filter takes edits) ≤ length (filter (is_missing new) old) =
      covered (edit_sort_key row_sort_key) row_sort_key (filter (is_missing new) old) (filter takes edits) (ascend-filter (edit_sort_key row_sort_key) takes edits patch.ascend) (ascend-filter row_sort_key (is_missing new) old (ascend-rows_of slots bindings))
      (all_filter takes (Covers (filter (is_missing new) old)) (λ e passes. take_covers e (not_comes e.comes passes)) edits patch.each patch.change) in
      omega (arith, count edits)
