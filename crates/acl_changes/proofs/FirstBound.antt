-- The bindings of an entry's first key, and the expiry of the entry at their addresses.
use Rattle.std.proofs.Common.{◌≡◌, ℕ, zero, suc, ◌+◌, ◌*◌, ◌≤◌, ◌<◌, min, true, false, cond, ◌&&◌, List, [], ◌∷◌, ◌++◌, length, get_or, Option, Some, None, refl, sym, ap, subst, ◌∙◌, arith}
use Rattle.std.specs.Option.{option_map, option_and_then}
use Rattle.std.specs.List.{filter_map, slice_get}
use Rattle.std.proofs.lemmas.Option.{none-some, same_Some, slice_get_read}
use Rattle.base_rows.specs.Sortable.{row_at, rows_under, is_under, SortKeysAscend}
use Rattle.base_rows.proofs.SortableLaws.{same_sort_key_exact, row_at_row}
use Rattle.base_rows.proofs.RowLaws.{ascend-filter}
use Rattle.mud_base.specs.declared.addr.Addr.{Addr}
use Rattle.base_rows.specs.Addresses.{addr_sort_key}
use Rattle.acl_model.specs.declared.entry.Selector.{Selector}
use Rattle.acl_model.specs.declared.entry.Entry.{Entry}
use Rattle.acl_model.specs.declared.binding.MemberKey.{MemberKey}
use Rattle.acl_model.specs.declared.binding.Binding.{Binding}
use Rattle.acl_model.specs.Keys.{key_of, is_membered}
use Rattle.acl_model.specs.Match.{is_in_family}
use Rattle.acl_model.specs.SortKeys.{member_sort_key, text_sort_key, bound_sort_key, binding_sort_key}
use Rattle.acl_model.specs.Changes.{until_of, bound_until, for_ever}
use Rattle.acl_buckets.proofs.Beside.{kept}
use Rattle.acl_buckets.proofs.KeyLaws.{tells_text, binding_sort_key_is}
use Rattle.acl_buckets.proofs.BindingPartLaws.{row_under}
use Rattle.acl_rows.specs.Rows.{member_keys, least_expiry, entry_expiry}
use Rattle.acl_changes.specs.EntryKeys.{key_parts}
use Rattle.acl_changes.specs.Keys.{sort_key_of_text}
use Rattle.acl_changes.specs.Change.{expiry_in}
use Rattle.acl_changes.specs.Fresh.{first_of, rest_of, AreBoundFirst}
use Rattle.acl_changes.proofs.LeastExpiries.{expiry_in-bound}
use Rattle.acl_changes.proofs.FreshLaws.{has_member}

-- ---- The binding of a key and its own address

only_one : (P : Binding → Type 0) (b x : Binding) (j : ℕ) → slice_get (b ∷ []) j ≡ Some x → P b → P x
only_one P b x zero at here = subst P (same_Some b x at) here
only_one P b x (suc j) at here = absurd (none-some x at)

-- what is bound to a key is the binding that stands at its sort key
bound_row : (bindings : List Binding) (kind : ℕ) (text : List ℕ) (bound : List Binding) (i : ℕ) (b : Binding) → SortKeysAscend binding_sort_key bindings → bound ≡ rows_under binding_sort_key (text_sort_key kind text) bindings → slice_get bound i ≡ Some b
    → row_at binding_sort_key (sort_key_of_text kind text b.addr) bindings ≡ Some b
bound_row bindings kind text bound i b up is at =
    let t : List ℕ = text_sort_key kind text in
    let here : slice_get (rows_under binding_sort_key t bindings) i ≡ Some b = ap (λ (xs : List Binding). slice_get xs i) (sym is) ∙ at in
    let front : t ≡ member_sort_key b.key = same_sort_key_exact t (member_sort_key b.key) (sym (tells_text kind text b) ∙ kept (is_under binding_sort_key t) bindings i b here) in
    let sort_key : sort_key_of_text kind text b.addr ≡ binding_sort_key b = ap (λ (p : List ℕ). p ++ addr_sort_key b.addr) front ∙ sym (binding_sort_key_is b) in
    sym (row_under t (tells_text kind text) b.addr bindings)
    ∙ ap (λ (p : List ℕ). row_at binding_sort_key p (rows_under binding_sort_key t bindings)) sort_key
    ∙ row_at_row binding_sort_key (rows_under binding_sort_key t bindings) i b (ascend-filter binding_sort_key (is_under binding_sort_key t) bindings up) here

bound_expiry : (bindings : List Binding) (key : MemberKey) (kind : ℕ) (text : List ℕ) (a : Addr) (u : ℕ) → (kind, text) ≡ key_parts key → expiry_in (sort_key_of_text kind text a) bindings ≡ Some u → bound_until bindings key a ≡ Some u
unfolding key_parts text_sort_key member_sort_key bound_sort_key
bound_expiry bindings key kind text a u parts is =
    sym (ap (λ (x : ℕ × List ℕ). expiry_in (sort_key_of_text x.0 x.1 a) bindings) parts ∙ expiry_in-bound bindings key a) ∙ is

row_expiry : (p : List ℕ) (bindings : List Binding) (b : Binding) → row_at binding_sort_key p bindings ≡ Some b → expiry_in p bindings ≡ Some b.until
unfolding until_of
row_expiry p bindings b is = ap (option_map until_of) is

module _ (bindings : List Binding) (url : List ℕ) (entry : Entry) (behind : List Selector) where
  first_by : (kind : ℕ) (text : List ℕ) (bound : List Binding) → SortKeysAscend binding_sort_key bindings → bound ≡ rows_under binding_sort_key (text_sort_key kind text) bindings
      → (keys : List MemberKey) → member_keys url entry ≡ keys → (let p : Option (ℕ × List ℕ) = Some (kind, text) in p ≡ option_map key_parts (first_of keys)) → filter_map (key_of url) behind ≡ rest_of keys
      → AreBoundFirst bindings url entry behind bound
  unfolding first_of rest_of
  first_by kind text bound up is [] are first rest = absurd (none-some (kind, text) (sym first))
  first_by kind text bound up is (key ∷ keys) are first rest = record {
    key = key;
    keys = are ∙ ap (λ (ks : List MemberKey). key ∷ ks) (sym rest);
    each = λ i b at. bound_expiry bindings key kind text b.addr b.until (same_Some (kind, text) (key_parts key) first) (row_expiry (sort_key_of_text kind text b.addr) bindings b (bound_row bindings kind text bound i b up is at));
  }

  -- the bindings of the first key, as they are kept
  pub are_bound_first : (kind : ℕ) (text : List ℕ) (bound : List Binding) → SortKeysAscend binding_sort_key bindings → bound ≡ rows_under binding_sort_key (text_sort_key kind text) bindings
      → (let p : Option (ℕ × List ℕ) = Some (kind, text) in p ≡ option_map key_parts (first_of (member_keys url entry))) → filter_map (key_of url) behind ≡ rest_of (member_keys url entry)
      → AreBoundFirst bindings url entry behind bound
  are_bound_first kind text bound up is first rest = first_by kind text bound up is (member_keys url entry) refl first rest

  -- one of them
  pub one_bound_first : (bound : List Binding) (i : ℕ) (b : Binding) → AreBoundFirst bindings url entry behind bound → i < length bound → b ≡ get_or bound i b → AreBoundFirst bindings url entry behind (b ∷ [])
  one_bound_first bound i b first lt is = record {
    key = first.key;
    keys = first.keys;
    each = λ j x at. only_one (λ (y : Binding). bound_until bindings first.key y.addr ≡ Some y.until) b x j at (first.each i b (slice_get_read bound (length bound) i b refl lt is));
  }

  -- ---- The expiry at its address

  is_member_first : (bound : List Binding) → AreBoundFirst bindings url entry behind bound → is_membered entry ≡ true
  unfolding first_of member_keys is_membered
  is_member_first bound first = has_member url entry.selectors (key_parts first.key) (ap (λ (ks : List MemberKey). option_map key_parts (first_of ks)) (sym first.keys))

  pub first_expiry : (b : Binding) → AreBoundFirst bindings url entry behind (b ∷ []) → b.until ≤ for_ever → is_in_family entry.family b.addr ≡ true → least_expiry bindings b.addr b.until (filter_map (key_of url) behind) ≡ entry_expiry bindings url entry b.addr
  unfolding entry_expiry least_expiry
  first_expiry b first few family =
      let rest : List MemberKey = filter_map (key_of url) behind in
      let lesser : min for_ever b.until ≡ b.until = omega arith in
      sym ((λ i. cond (is_member_first (b ∷ []) first i && family i) (least_expiry bindings b.addr for_ever (first.keys i)) None)
      ∙ ap (option_and_then (λ (u : ℕ). least_expiry bindings b.addr (min for_ever u) rest)) (first.each 0 b refl)
      ∙ ap (λ (u : ℕ). least_expiry bindings b.addr u rest) lesser)

  pub other_family : (b : Binding) → AreBoundFirst bindings url entry behind (b ∷ []) → is_in_family entry.family b.addr ≡ false → None ≡ entry_expiry bindings url entry b.addr
  unfolding entry_expiry
  other_family b first family = sym (λ i. cond (is_member_first (b ∷ []) first i && family i) (least_expiry bindings b.addr for_ever (member_keys url entry)) None)
