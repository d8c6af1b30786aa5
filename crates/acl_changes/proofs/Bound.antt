-- Bindings by the sort keys of their keys and addresses, before and after a change.
use Rattle.std.proofs.Common.{◌≡◌, ℕ, Bool, true, false, cond, ◌||◌, List, [], ◌∷◌, Some, None, refl, sym, ap, ◌∙◌}
use Rattle.std.specs.Prelude.{find}
use Rattle.std.specs.Option.{option_map}
use Rattle.std.specs.List.{list_any}
use Rattle.std.proofs.lemmas.Bool.{false≢true, false_from_ne_true}
use Rattle.base_rows.specs.Sortable.{same_sort_key, row_at, set_row, set_rows, without_row, SortKeysAscend}
use Rattle.base_rows.proofs.SortableLaws.{row_at-set_row_other, row_at-without_row, ascend-set_rows, ascend-without_row}
use Rattle.base_rows.proofs.ListTests.{or_first, or_second}
use Rattle.base_rows.proofs.ChangeLaws.{same_sort_key_turned}
use Rattle.mud_base.specs.declared.addr.Addr.{Addr}
use Rattle.acl_model.specs.declared.binding.MemberKey.{MemberKey}
use Rattle.acl_model.specs.declared.binding.Binding.{Binding}
use Rattle.acl_model.specs.SortKeys.{bound_sort_key, binding_sort_key}
use Rattle.acl_model.specs.Changes.{same_spot, is_bound_to, until_of, bound_until, without_bindings, replaced}
use Rattle.acl_model.proofs.SortKeyLaws.{binding_sort_key_exact, ascend-without_bindings}

-- ---- A sort key tells the key and the address

-- a binding is of a key and an address where it stands at their sort key
pub at_sort_key : (key : MemberKey) (a : Addr) (b : Binding) → same_sort_key (binding_sort_key b) (bound_sort_key key a) ≡ is_bound_to key a b
unfolding binding_sort_key is_bound_to same_spot
at_sort_key key a b =
    let bound : Binding = record { key = key; addr = a; until = 0 } in
    same_sort_key_turned (binding_sort_key b) (bound_sort_key key a) ∙ binding_sort_key_exact bound b

pub find-row_at : (key : MemberKey) (a : Addr) (bs : List Binding) → find (is_bound_to key a) bs ≡ row_at binding_sort_key (bound_sort_key key a) bs
find-row_at key a [] = refl
find-row_at key a (b ∷ bs) = ap (λ (c : Bool). cond c (Some b) (find (is_bound_to key a) bs)) (sym (at_sort_key key a b)) ∙ ap (cond (same_sort_key (binding_sort_key b) (bound_sort_key key a)) (Some b)) (find-row_at key a bs)

-- ---- Tests of all elements

pub any_none_implied : {A : Type 0} (p q : A → Bool) → ((x : A) → p x ≡ true → q x ≡ true) → (xs : List A) → list_any q xs ≡ false → list_any p xs ≡ false
any_none_implied p q implied [] none = refl
any_none_implied p q implied (x ∷ xs) none =
    let no : p x ≡ false = false_from_ne_true (p x) (λ e. false≢true (sym (or_first (q x) (list_any q xs) none) ∙ implied x e)) in
    ap (λ (c : Bool). c || list_any p xs) no ∙ any_none_implied p q implied xs (or_second (q x) (list_any q xs) none)

-- ---- After a change

module _ {R : Type 0} (sort_key : R → List ℕ) (p : List ℕ) where
  pub row_at-set_rows_other : (xs rows : List R) → list_any (λ x. same_sort_key (sort_key x) p) xs ≡ false → row_at sort_key p (set_rows sort_key xs rows) ≡ row_at sort_key p rows
  row_at-set_rows_other [] rows none = refl
  row_at-set_rows_other (x ∷ xs) rows none =
      row_at-set_rows_other xs (set_row sort_key x rows) (or_second (same_sort_key (sort_key x) p) (list_any (λ y. same_sort_key (sort_key y) p) xs) none)
      ∙ row_at-set_row_other sort_key x rows p (or_first (same_sort_key (sort_key x) p) (list_any (λ y. same_sort_key (sort_key y) p) xs) none)

pub ascend-replaced : (gone come bindings : List Binding) → SortKeysAscend binding_sort_key bindings → SortKeysAscend binding_sort_key (replaced gone come bindings)
unfolding replaced
ascend-replaced gone come bindings up = ascend-set_rows binding_sort_key come (without_bindings gone bindings) (ascend-without_bindings gone bindings up)

row_at-without_other : (p : List ℕ) (gone bindings : List Binding) → SortKeysAscend binding_sort_key bindings → list_any (λ b. same_sort_key (binding_sort_key b) p) gone ≡ false → row_at binding_sort_key p (without_bindings gone bindings) ≡ row_at binding_sort_key p bindings
unfolding without_bindings
row_at-without_other p [] bindings up none = refl
row_at-without_other p (b ∷ gone) bindings up none =
    row_at-without_other p gone (without_row binding_sort_key (binding_sort_key b) bindings) (ascend-without_row binding_sort_key (binding_sort_key b) bindings up) (or_second (same_sort_key (binding_sort_key b) p) (list_any (λ c. same_sort_key (binding_sort_key c) p) gone) none)
    ∙ row_at-without_row binding_sort_key (binding_sort_key b) bindings p up
    ∙ ap (λ (c : Bool). cond c None (row_at binding_sort_key p bindings)) (or_first (same_sort_key (binding_sort_key b) p) (list_any (λ c. same_sort_key (binding_sort_key c) p) gone) none)

none_at : (key : MemberKey) (a : Addr) (bs : List Binding) → list_any (is_bound_to key a) bs ≡ false → list_any (λ b. same_sort_key (binding_sort_key b) (bound_sort_key key a)) bs ≡ false
none_at key a bs none = any_none_implied (λ b. same_sort_key (binding_sort_key b) (bound_sort_key key a)) (is_bound_to key a) (λ b e. sym (at_sort_key key a b) ∙ e) bs none

-- a key and an address that no binding of the change has keep their expiry
pub bound_until-untouched : (gone come bindings : List Binding) (key : MemberKey) (a : Addr) → SortKeysAscend binding_sort_key bindings → list_any (is_bound_to key a) gone ≡ false → list_any (is_bound_to key a) come ≡ false
    → bound_until (replaced gone come bindings) key a ≡ bound_until bindings key a
unfolding bound_until replaced
bound_until-untouched gone come bindings key a up left came =
    ap (option_map until_of)
    (find-row_at key a (set_rows binding_sort_key come (without_bindings gone bindings))
    ∙ row_at-set_rows_other binding_sort_key (bound_sort_key key a) come (without_bindings gone bindings) (none_at key a come came)
    ∙ row_at-without_other (bound_sort_key key a) gone bindings up (none_at key a gone left)
    ∙ sym (find-row_at key a bindings))
