-- The edits of the sort keys that a change touches are a patch.
use Rattle.std.proofs.Common.{◌≡◌, ℕ, Bool, true, false, cond, ◌||◌, List, [], ◌∷◌, ◌++◌, Option, Some, None, Result, refl, sym, ap, subst, ◌∙◌}
use Rattle.std.specs.Prelude.{◌≢◌, unwrap_or, is_some}
use Rattle.std.specs.List.{list_any, AllByRecursion}
use Rattle.std.proofs.lemmas.Bool.{false≢true, eqb-true, eq-eqb}
use Rattle.std.proofs.lemmas.Option.{none-some}
use Rattle.base_rows.specs.Sortable.{same_sort_key, row_at, set_row, SortKeysAscend}
use Rattle.base_rows.proofs.SortableLaws.{same_sort_key_exact, row_at-set_row, row_at-set_row_same, ascend-set_row}
use Rattle.base_rows.proofs.RowLaws.{all-set_row}
use Rattle.mud_base.specs.declared.addr.Addr.{Addr}
use Rattle.mud_base.specs.declared.packet.Direction.{Direction}
use Rattle.acl_model.specs.declared.binding.Binding.{Binding}
use Rattle.acl_model.specs.SortKeys.{binding_sort_key}
use Rattle.acl_model.specs.Changes.{replaced}
use Rattle.base_rows.specs.declared.edit.Edit.{Edit}
use Rattle.base_rows.specs.Edits.{edit_sort_key}
use Rattle.acl_buckets.specs.RowBuckets.{AreFoundBeside}
use Rattle.acl_rows.specs.declared.row.Owner.{Owner}
use Rattle.acl_rows.specs.declared.row.Row.{Row}
use Rattle.acl_rows.specs.declared.row.RowKey.{RowKey}
use Rattle.acl_rows.specs.SortKeys.{sort_key_at, row_sort_key, named_sort_key}
use Rattle.acl_rows.specs.ByAddress.{index_beside}
use Rattle.acl_rows.specs.Rows.{row, Slots, rows_of, expiry_at}
use Rattle.acl_rows.proofs.Coordinates.{AreSame, same_coordinates}
use Rattle.acl_changes.specs.Patch.{edit_expiry, expiry_for, IsPatch}
use Rattle.acl_changes.specs.Touched.{touches, same_expiry, edit_of, changed_edits, key_expiry, with_edit, with_edits}
use Rattle.acl_changes.proofs.Untouched.{touches_at, untouched}

same_expiry_exact : (o w : Option ℕ) → same_expiry o w ≡ true → o ≡ w
unfolding same_expiry
same_expiry_exact None None e = refl
same_expiry_exact (Some m) (Some n) e = ap Some (eqb-true m n e)
same_expiry_exact None (Some n) e = absurd (false≢true e)
same_expiry_exact (Some m) None e = absurd (false≢true e)

same_expiry_itself : (o : Option ℕ) → same_expiry o o ≡ true
unfolding same_expiry
same_expiry_itself None = refl
same_expiry_itself (Some n) = eq-eqb n n refl

other_expiry : (o w : Option ℕ) → same_expiry o w ≡ false → o ≢ w
other_expiry o w e same = false≢true (sym e ∙ ap (λ (x : Option ℕ). same_expiry x w) same ∙ same_expiry_itself w)

some≢none : {A : Type 0} (x : A) → (let o : Option A = Some x in o ≡ None) → ⊥
some≢none x e = none-some x (sym e)

expiry_by : (old new : Option ℕ) → cond (is_some new) (Some (unwrap_or new (unwrap_or old 0))) None ≡ new
expiry_by old None = refl
expiry_by old (Some u) = refl

pub edit_of-end : (key : RowKey) (found : Result ℕ ℕ) (old new : Option ℕ) → edit_expiry (edit_of key found old new) ≡ new
unfolding edit_expiry edit_of row
edit_of-end key found old new = expiry_by old new

module _ (slots : Slots) (bindings : List Binding) (slots' : Slots) (bindings' : List Binding) where
  -- ---- Each edit says what is asked, changes it, and has its index

  pub record AreEdits (edits : List (Edit Row)) : Type 0 where
    pub ascend : SortKeysAscend (edit_sort_key row_sort_key) edits
    pub each : AllByRecursion (λ e. edit_expiry e ≡ expiry_for slots' bindings' e.row) edits
    pub change : AllByRecursion (λ e. edit_expiry e ≢ expiry_for slots bindings e.row) edits
    pub found : AreFoundBeside (rows_of slots bindings) edits

  abbrev new_expiry : RowKey → Option ℕ
  new_expiry t = key_expiry slots' bindings' t

  abbrev old_expiry : RowKey → Option ℕ
  old_expiry t = key_expiry slots bindings t

  abbrev the_edit : RowKey → Edit Row
  the_edit t = edit_of t (index_beside t.owner t.side t.addr (named_sort_key t) (rows_of slots bindings)) (old_expiry t) (new_expiry t)

  says : (t : RowKey) → edit_expiry (the_edit t) ≡ expiry_for slots' bindings' (the_edit t).row
  unfolding expiry_for edit_of row key_expiry
  says t = edit_of-end t (index_beside t.owner t.side t.addr (named_sort_key t) (rows_of slots bindings)) (old_expiry t) (new_expiry t)

  changes : (t : RowKey) → same_expiry (new_expiry t) (old_expiry t) ≡ false → edit_expiry (the_edit t) ≢ expiry_for slots bindings (the_edit t).row
  unfolding expiry_for edit_of row key_expiry
  changes t e is = other_expiry (new_expiry t) (old_expiry t) e (sym (edit_of-end t (index_beside t.owner t.side t.addr (named_sort_key t) (rows_of slots bindings)) (old_expiry t) (new_expiry t)) ∙ is)

  indexed : (t : RowKey) → (the_edit t).found ≡ index_beside (the_edit t).row.owner (the_edit t).row.side (the_edit t).row.addr (row_sort_key (the_edit t).row) (rows_of slots bindings)
  unfolding edit_of row row_sort_key named_sort_key
  indexed t = refl

  one_by : (t : RowKey) (edits : List (Edit Row)) → AreEdits edits → (b : Bool) → same_expiry (new_expiry t) (old_expiry t) ≡ b → AreEdits (cond b edits (set_row (edit_sort_key row_sort_key) (the_edit t) edits))
  one_by t edits are true e = are
  one_by t edits are false e = record {
    ascend = ascend-set_row (edit_sort_key row_sort_key) (the_edit t) edits are.ascend;
    each = all-set_row (edit_sort_key row_sort_key) (λ x. edit_expiry x ≡ expiry_for slots' bindings' x.row) (the_edit t) edits (says t) are.each;
    change = all-set_row (edit_sort_key row_sort_key) (λ x. edit_expiry x ≢ expiry_for slots bindings x.row) (the_edit t) edits (changes t e) are.change;
    found = all-set_row (edit_sort_key row_sort_key) (λ x. x.found ≡ index_beside x.row.owner x.row.side x.row.addr (row_sort_key x.row) (rows_of slots bindings)) (the_edit t) edits (indexed t) are.found;
  }

  pub one_more : (t : RowKey) (edits : List (Edit Row)) → AreEdits edits → AreEdits (with_edit slots bindings slots' bindings' t edits)
  unfolding with_edit changed_edits
  one_more t edits are = one_by t edits are (same_expiry (new_expiry t) (old_expiry t)) refl

  pub are_edits : (ts : List RowKey) (edits : List (Edit Row)) → AreEdits edits → AreEdits (with_edits slots bindings slots' bindings' ts edits)
  unfolding with_edits
  are_edits [] edits are = are
  are_edits (t ∷ ts) edits are = are_edits ts (with_edit slots bindings slots' bindings' t edits) (one_more t edits are)

  -- ---- Where there is no edit, the expiry stays

  kept_cond : (e : Edit Row) (old : Option (Edit Row)) (b : Bool) → cond b (Some e) old ≡ None → old ≡ None
  kept_cond e old true is = absurd (some≢none e is)
  kept_cond e old false is = is

  keeps_by : (p : List ℕ) (t : RowKey) (edits : List (Edit Row)) (b : Bool) → row_at (edit_sort_key row_sort_key) p (cond b edits (set_row (edit_sort_key row_sort_key) (the_edit t) edits)) ≡ None → row_at (edit_sort_key row_sort_key) p edits ≡ None
  keeps_by p t edits true e = e
  keeps_by p t edits false e = kept_cond (the_edit t) (row_at (edit_sort_key row_sort_key) p edits) (same_sort_key (edit_sort_key row_sort_key (the_edit t)) p) (sym (row_at-set_row (edit_sort_key row_sort_key) (the_edit t) edits p) ∙ e)

  keeps : (p : List ℕ) (t : RowKey) (edits : List (Edit Row)) → row_at (edit_sort_key row_sort_key) p (with_edit slots bindings slots' bindings' t edits) ≡ None → row_at (edit_sort_key row_sort_key) p edits ≡ None
  unfolding with_edit changed_edits
  keeps p t edits e = keeps_by p t edits (same_expiry (new_expiry t) (old_expiry t)) e

  pub keeps_all : (p : List ℕ) (ts : List RowKey) (edits : List (Edit Row)) → row_at (edit_sort_key row_sort_key) p (with_edits slots bindings slots' bindings' ts edits) ≡ None → row_at (edit_sort_key row_sort_key) p edits ≡ None
  unfolding with_edits
  keeps_all p [] edits e = e
  keeps_all p (t ∷ ts) edits e = keeps p t edits (keeps_all p ts (with_edit slots bindings slots' bindings' t edits) e)

  module _ (owner : Owner) (side : Direction) (a : Addr) (n : ℕ) where
    -- an edit that isn't there wouldn't change
    here_by : (t : RowKey) (edits : List (Edit Row)) → named_sort_key t ≡ sort_key_at owner side a n → (b : Bool) → same_expiry (new_expiry t) (old_expiry t) ≡ b → row_at (edit_sort_key row_sort_key) (sort_key_at owner side a n) (cond b edits (set_row (edit_sort_key row_sort_key) (the_edit t) edits)) ≡ None → new_expiry t ≡ old_expiry t
    unfolding edit_of row edit_sort_key row_sort_key named_sort_key
    here_by t edits at true e none = same_expiry_exact (new_expiry t) (old_expiry t) e
    here_by t edits at false e none =
        absurd (some≢none (the_edit t) (sym (row_at-set_row_same (edit_sort_key row_sort_key) (the_edit t) edits) ∙ subst (λ (p : List ℕ). row_at (edit_sort_key row_sort_key) p (set_row (edit_sort_key row_sort_key) (the_edit t) edits) ≡ None) (sym at) none))

    here : (t : RowKey) (edits : List (Edit Row)) → named_sort_key t ≡ sort_key_at owner side a n → row_at (edit_sort_key row_sort_key) (sort_key_at owner side a n) (with_edit slots bindings slots' bindings' t edits) ≡ None → expiry_at slots' bindings' owner side a n ≡ expiry_at slots bindings owner side a n
    unfolding with_edit changed_edits named_sort_key key_expiry
    here t edits at none =
        let same : AreSame t.owner owner t.side side t.addr a t.entry n = same_coordinates t.owner owner t.side side t.addr a t.entry n at in
        let is : new_expiry t ≡ old_expiry t = here_by t edits at (same_expiry (new_expiry t) (old_expiry t)) refl none in
        (λ i. expiry_at slots' bindings' (sym same.owner i) (sym same.side i) (sym same.addr i) (sym same.number i)) ∙ is ∙ (λ i. expiry_at slots bindings (same.owner i) (same.side i) (same.addr i) (same.number i))

    stays_by : (t : RowKey) (ts : List RowKey) (edits : List (Edit Row)) → row_at (edit_sort_key row_sort_key) (sort_key_at owner side a n) (with_edits slots bindings slots' bindings' ts (with_edit slots bindings slots' bindings' t edits)) ≡ None
        → (list_any (touches_at owner side a n) ts ≡ true → expiry_at slots' bindings' owner side a n ≡ expiry_at slots bindings owner side a n)
        → (b : Bool) → touches_at owner side a n t ≡ b → (b || list_any (touches_at owner side a n) ts) ≡ true → expiry_at slots' bindings' owner side a n ≡ expiry_at slots bindings owner side a n
    stays_by t ts edits none rest true e any = here t edits (same_sort_key_exact (named_sort_key t) (sort_key_at owner side a n) e) (keeps_all (sort_key_at owner side a n) ts (with_edit slots bindings slots' bindings' t edits) none)
    stays_by t ts edits none rest false e any = rest any

    pub stays : (ts : List RowKey) (edits : List (Edit Row)) → row_at (edit_sort_key row_sort_key) (sort_key_at owner side a n) (with_edits slots bindings slots' bindings' ts edits) ≡ None → list_any (touches_at owner side a n) ts ≡ true → expiry_at slots' bindings' owner side a n ≡ expiry_at slots bindings owner side a n
    unfolding with_edits
    stays [] edits none any = absurd (false≢true any)
    stays (t ∷ ts) edits none any = stays_by t ts edits none (stays ts (with_edit slots bindings slots' bindings' t edits) none) (touches_at owner side a n t) refl any

  -- ---- Edits of all that is touched

  rest_by : (ts : List RowKey) → ((owner : Owner) (side : Direction) (a : Addr) (n : ℕ) → list_any (touches_at owner side a n) ts ≡ false → expiry_at slots' bindings' owner side a n ≡ expiry_at slots bindings owner side a n)
      → (owner : Owner) (side : Direction) (a : Addr) (n : ℕ) → row_at (edit_sort_key row_sort_key) (sort_key_at owner side a n) (with_edits slots bindings slots' bindings' ts []) ≡ None → (b : Bool) → list_any (touches_at owner side a n) ts ≡ b → expiry_at slots' bindings' owner side a n ≡ expiry_at slots bindings owner side a n
  rest_by ts others owner side a n none true e = stays owner side a n ts [] none e
  rest_by ts others owner side a n none false e = others owner side a n e

  -- where the expiry stays at each sort key that isn't touched, the edits of those that are make a patch
  pub patch_of : (ts : List RowKey) → ((owner : Owner) (side : Direction) (a : Addr) (n : ℕ) → list_any (touches_at owner side a n) ts ≡ false → expiry_at slots' bindings' owner side a n ≡ expiry_at slots bindings owner side a n)
      → IsPatch slots bindings slots' bindings' (with_edits slots bindings slots' bindings' ts [])
  patch_of ts others =
      let are : AreEdits (with_edits slots bindings slots' bindings' ts []) = are_edits ts [] (record { ascend = tt; each = tt; change = tt; found = tt }) in
      record {
        ascend = are.ascend;
        each = are.each;
        change = are.change;
        found = are.found;
        rest = λ owner side a n none. rest_by ts others owner side a n none (list_any (touches_at owner side a n) ts) refl;
      }

-- the edits of the sort keys that a change of bindings touches
pub bindings_patch : (slots : Slots) (gone come bindings : List Binding) → SortKeysAscend binding_sort_key bindings
    → IsPatch slots bindings slots (replaced gone come bindings) (with_edits slots bindings slots (replaced gone come bindings) (touches slots (gone ++ come)) [])
bindings_patch slots gone come bindings up =
    patch_of slots bindings slots (replaced gone come bindings) (touches slots (gone ++ come)) (λ owner side a n none. untouched slots gone come bindings up owner side a n none)
