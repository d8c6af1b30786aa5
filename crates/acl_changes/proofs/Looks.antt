-- The least number of steps in which an entry's bindings are looked for.
use Rattle.std.proofs.Common.{◌≡◌, ℕ, ◌+◌, ◌≤◌, min, Bool, true, false, cond, ◌&&◌, List, length, Option, Some, None, refl, sym, ap, ◌∙◌, arith}
use Rattle.std.specs.Option.{option_map, is_some}
use Rattle.std.specs.List.{filter_map, cons_option}
use Rattle.std.proofs.lemmas.Option.{same_Some, none-some}
use Rattle.mud_base.specs.declared.addr.Addr.{Addr}
use Rattle.base_rows.specs.Sortable.{row_at, rows_under}
use Rattle.base_rows.specs.declared.edit.Edit.{Edit}
use Rattle.base_rows.specs.Edits.{edit_sort_key}
use Rattle.acl_model.specs.declared.binding.MemberKey.{MemberKey}
use Rattle.acl_model.specs.declared.binding.Binding.{Binding}
use Rattle.acl_model.specs.declared.entry.Entry.{Entry}
use Rattle.acl_model.specs.Keys.{key_of, is_membered}
use Rattle.acl_model.specs.Match.{is_in_family}
use Rattle.acl_model.specs.SortKeys.{key_kind, key_text, text_sort_key, binding_sort_key}
use Rattle.acl_model.specs.Changes.{bound_until}
use Rattle.acl_rows.specs.Rows.{member_keys}
use Rattle.acl_changes.specs.EntryKeys.{key_parts}
use Rattle.acl_changes.specs.Keys.{sort_key_of_text}
use Rattle.acl_changes.specs.Change.{ChangeState, after, met_expiry}
use Rattle.acl_changes.specs.Steps.{text_look, key_look, key_looks, entry_look}

-- ---- One binding

abbrev at_text : ℕ → List ℕ → Addr → List (Edit Binding) → Option (Edit Binding)
at_text kind text a edits = row_at (edit_sort_key binding_sort_key) (sort_key_of_text kind text a) edits

abbrev under_text : ℕ → List ℕ → List Binding → ℕ
under_text kind text bindings = min 1 (length (rows_under binding_sort_key (text_sort_key kind text) bindings))

-- where an edit is of the sort key, it isn't looked for
pub look_edited : (c : ChangeState) (kind : ℕ) (text : List ℕ) (a : Addr) (edits : List (Edit Binding)) (e : Edit Binding) → edits ≡ c.edits → Some e ≡ row_at (edit_sort_key binding_sort_key) (sort_key_of_text kind text a) edits → text_look c kind text a ≡ 0
unfolding text_look
look_edited c kind text a edits e same is = ap (λ (o : Option (Edit Binding)). cond (is_some o) 0 (under_text kind text c.bindings)) (ap (at_text kind text a) (sym same) ∙ sym is)

at_most : (b : Bool) (n : ℕ) → cond b 0 n ≤ n
at_most true n = omega arith
at_most false n = omega arith

pub look_kept : (c : ChangeState) (kind : ℕ) (text : List ℕ) (a : Addr) (bindings : List Binding) → bindings ≡ c.bindings → (start end : ℕ) → start + min 1 (length (rows_under binding_sort_key (text_sort_key kind text) bindings)) ≤ end → start + text_look c kind text a ≤ end
unfolding text_look
look_kept c kind text a bindings same start end looked =
    let most = at_most (is_some (at_text kind text a c.edits)) (under_text kind text c.bindings) in
    omega (arith, most, ap (under_text kind text) same, looked)

-- ---- That of a selector

pub none_look : (c : ChangeState) (a : Addr) (o : Option MemberKey) → (let p : Option (ℕ × List ℕ) = None in p ≡ option_map key_parts o) → key_look c a o ≡ 0
unfolding key_look
none_look c a None is = refl
none_look c a (Some key) is = absurd (none-some (key_parts key) is)

pub some_look : (c : ChangeState) (a : Addr) (kind : ℕ) (text : List ℕ) (o : Option MemberKey) → (let p : Option (ℕ × List ℕ) = Some (kind, text) in p ≡ option_map key_parts o) → text_look c kind text a ≡ key_look c a o
unfolding key_look key_parts
some_look c a kind text None is = absurd (none-some (kind, text) (sym is))
some_look c a kind text (Some key) is = ap (λ (x : ℕ × List ℕ). text_look c x.0 x.1 a) (same_Some (kind, text) (key_kind key, key_text key) is)

-- ---- One selector after the other

bound : (m n : ℕ) (o : Option ℕ) → Some n ≡ option_map (min m) o → is_some o ≡ true
bound m n None is = absurd (none-some n (sym is))
bound m n (Some u) is = refl

unbound : (m : ℕ) (o : Option ℕ) → None ≡ option_map (min m) o → is_some o ≡ false
unbound m None is = refl
unbound m (Some u) is = absurd (none-some (min m u) is)

pub looks_on : (c : ChangeState) (a : Addr) (m n : ℕ) (keys : List MemberKey) (o : Option MemberKey) → Some n ≡ met_expiry (after c) a m o → key_looks c a (cons_option o keys) ≡ key_look c a o + key_looks c a keys
unfolding key_looks key_look met_expiry
looks_on c a m n keys None is = omega arith
looks_on c a m n keys (Some key) is = ap (λ (b : Bool). text_look c (key_kind key) (key_text key) a + cond b (key_looks c a keys) 0) (bound m n (bound_until (after c) key a) is)

pub looks_off : (c : ChangeState) (a : Addr) (m : ℕ) (keys : List MemberKey) (o : Option MemberKey) → None ≡ met_expiry (after c) a m o → key_looks c a (cons_option o keys) ≡ key_look c a o
unfolding key_looks key_look met_expiry
looks_off c a m keys None is = absurd (none-some m is)
looks_off c a m keys (Some key) is =
    ap (λ (b : Bool). text_look c (key_kind key) (key_text key) a + cond b (key_looks c a keys) 0) (unbound m (bound_until (after c) key a) is) ∙ more
  where
    more : text_look c (key_kind key) (key_text key) a + 0 ≡ text_look c (key_kind key) (key_text key) a
    more = omega arith

-- ---- An entry

abbrev looks_of : ChangeState → List ℕ → Entry → Addr → Bool → ℕ
looks_of c url entry a b = cond b (key_looks c a (member_keys url entry)) 0

and_false : (b : Bool) → (b && false) ≡ false
and_false true = refl
and_false false = refl

pub look_unmembered : (c : ChangeState) (url : List ℕ) (entry : Entry) (a : Addr) → is_membered entry ≡ false → entry_look c url entry a ≡ 0
unfolding entry_look
look_unmembered c url entry a is = ap (λ (b : Bool). looks_of c url entry a (b && is_in_family entry.family a)) is

pub look_other_family : (c : ChangeState) (url : List ℕ) (entry : Entry) (a : Addr) → is_in_family entry.family a ≡ false → entry_look c url entry a ≡ 0
unfolding entry_look
look_other_family c url entry a is = ap (λ (b : Bool). looks_of c url entry a (is_membered entry && b)) is ∙ ap (looks_of c url entry a) (and_false (is_membered entry))

pub look_keys : (c : ChangeState) (url : List ℕ) (entry : Entry) (a : Addr) → is_membered entry ≡ true → is_in_family entry.family a ≡ true → entry_look c url entry a ≡ key_looks c a (filter_map (key_of url) entry.selectors)
unfolding entry_look member_keys
look_keys c url entry a membered family = λ i. looks_of c url entry a (membered i && family i)
