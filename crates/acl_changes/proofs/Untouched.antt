-- A change of bindings touches the sort keys of its own addresses and keys alone.
use Rattle.std.proofs.Common.{◌≡◌, ℕ, Bool, true, false, cond, ◌&&◌, ◌||◌, min, List, [], ◌∷◌, ◌++◌, Option, Some, None, refl, sym, ap, subst, ◌∙◌}
use Rattle.std.specs.Option.{option_map_or, option_and_then}
use Rattle.std.specs.List.{list_any, filter_map, cons_option, AllByRecursion}
use Rattle.std.proofs.lemmas.List.Folds.{list_any-append}
use Rattle.std.specs.Cmp.{first_so, second_so}
use Rattle.std.proofs.lemmas.Bool.{and_from, or_left, or_right}
use Rattle.base_rows.specs.Sortable.{same_sort_key, SortKeysAscend}
use Rattle.base_rows.proofs.SortableLaws.{same_sort_key_itself}
use Rattle.base_rows.proofs.ListTests.{or_first, or_second, any-flat_map}
use Rattle.mud_base.specs.Addresses.{same_addr}
use Rattle.mud_base.specs.declared.addr.Addr.{Addr}
use Rattle.mud_base.specs.declared.packet.Direction.{Direction}
use Rattle.mud_base.specs.declared.packet.Direction.TheVariants.{From, To}
use Rattle.acl_model.specs.declared.entry.Selector.{Selector}
use Rattle.acl_model.specs.declared.entry.Entry.{Entry}
use Rattle.acl_model.specs.declared.binding.MemberKey.{MemberKey}
use Rattle.acl_model.specs.declared.binding.Binding.{Binding}
use Rattle.acl_model.specs.Keys.{key_of, has_key, is_membered, same_key}
use Rattle.acl_model.specs.Match.{is_in_family}
use Rattle.acl_model.specs.FirstMatch.{entries_of}
use Rattle.acl_model.specs.Policies.{UrlPolicy}
use Rattle.acl_model.specs.SortKeys.{binding_sort_key}
use Rattle.acl_model.specs.Changes.{is_bound_to, bound_until, replaced}
use Rattle.acl_model.proofs.BindingLaws.{same_addr_exact}
use Rattle.acl_rows.specs.declared.row.Owner.{Owner}
use Rattle.acl_rows.specs.declared.row.RowKey.{RowKey}
use Rattle.acl_rows.specs.SortKeys.{sort_key_at, named_sort_key}
use Rattle.acl_rows.specs.Rows.{for_ever, member_keys, least_expiry, entry_expiry, numbered, Holder, holders_from, Slots, held_by, entry_at, held_expiry, expiry_at}
use Rattle.acl_rows.proofs.Sound.{held_complete, any_entry}
use Rattle.acl_changes.specs.Touched.{row_key, entry_touch, side_touches, holder_touches, binding_touches, touches}
use Rattle.acl_changes.proofs.Bound.{any_none_implied, bound_until-untouched}

-- ---- An entry that has no key of a change at an address

-- the binding is of the address, and a selector has its key
abbrev concerns : List ℕ → List Selector → Addr → Binding → Bool
concerns url ss a b = same_addr a b.addr && list_any (has_key url b.key) ss

bound_concerns : (url : List ℕ) (s : Selector) (ss : List Selector) (key : MemberKey) (a : Addr) → key_of url s ≡ Some key → (b : Binding) → is_bound_to key a b ≡ true → concerns url (s ∷ ss) a b ≡ true
unfolding is_bound_to has_key
bound_concerns url s ss key a is b e =
    and_from (same_addr a b.addr) _ (second_so (same_key key b.key) (same_addr a b.addr) e)
    (or_left _ _ (ap (λ (o : Option MemberKey). option_map_or (λ own. same_key own b.key) o false) is ∙ first_so (same_key key b.key) (same_addr a b.addr) e))

concerns_more : (url : List ℕ) (s : Selector) (ss : List Selector) (a : Addr) (b : Binding) → concerns url ss a b ≡ true → concerns url (s ∷ ss) a b ≡ true
concerns_more url s ss a b e = and_from (same_addr a b.addr) _ (first_so (same_addr a b.addr) _ e) (or_right (has_key url b.key s) _ (second_so (same_addr a b.addr) _ e))

module _ (gone come bindings : List Binding) (up : SortKeysAscend binding_sort_key bindings) (a : Addr) where
  abbrev IsKept : MemberKey → Type 0
  IsKept key = bound_until (replaced gone come bindings) key a ≡ bound_until bindings key a

  kept_by : (url : List ℕ) (s : Selector) (ss : List Selector) → list_any (concerns url (s ∷ ss) a) gone ≡ false → list_any (concerns url (s ∷ ss) a) come ≡ false → AllByRecursion IsKept (filter_map (key_of url) ss) → (o : Option MemberKey) → key_of url s ≡ o → AllByRecursion IsKept (cons_option o (filter_map (key_of url) ss))
  kept_by url s ss left came rest None is = rest
  kept_by url s ss left came rest (Some key) is = (
    bound_until-untouched gone come bindings key a up
        (any_none_implied (is_bound_to key a) (concerns url (s ∷ ss) a) (bound_concerns url s ss key a is) gone left)
        (any_none_implied (is_bound_to key a) (concerns url (s ∷ ss) a) (bound_concerns url s ss key a is) come came),
    rest,
  )

  keys_kept : (url : List ℕ) (ss : List Selector) → list_any (concerns url ss a) gone ≡ false → list_any (concerns url ss a) come ≡ false → AllByRecursion IsKept (filter_map (key_of url) ss)
  keys_kept url [] left came = tt
  keys_kept url (s ∷ ss) left came =
      kept_by url s ss left came
      (keys_kept url ss (any_none_implied (concerns url ss a) (concerns url (s ∷ ss) a) (concerns_more url s ss a) gone left) (any_none_implied (concerns url ss a) (concerns url (s ∷ ss) a) (concerns_more url s ss a) come came))
      (key_of url s) refl

  least_by : (m : ℕ) (keys : List MemberKey) → ((k : ℕ) → least_expiry (replaced gone come bindings) a k keys ≡ least_expiry bindings a k keys) → (o : Option ℕ) → option_and_then (λ (end : ℕ). least_expiry (replaced gone come bindings) a (min m end) keys) o ≡ option_and_then (λ (end : ℕ). least_expiry bindings a (min m end) keys) o
  least_by m keys rest None = refl
  least_by m keys rest (Some end) = rest (min m end)

  least_kept : (m : ℕ) (keys : List MemberKey) → AllByRecursion IsKept keys → least_expiry (replaced gone come bindings) a m keys ≡ least_expiry bindings a m keys
  unfolding least_expiry
  least_kept m [] all = refl
  least_kept m (key ∷ keys) all =
      ap (option_and_then (λ (end : ℕ). least_expiry (replaced gone come bindings) a (min m end) keys)) all.0
      ∙ least_by m keys (λ k. least_kept k keys all.1) (bound_until bindings key a)

  entry_kept : (url : List ℕ) (entry : Entry) → list_any (concerns url entry.selectors a) gone ≡ false → list_any (concerns url entry.selectors a) come ≡ false → entry_expiry (replaced gone come bindings) url entry a ≡ entry_expiry bindings url entry a
  unfolding entry_expiry member_keys
  entry_kept url entry left came = ap (λ (o : Option ℕ). cond (is_membered entry && is_in_family entry.family a) o None) (least_kept for_ever (member_keys url entry) (keys_kept url entry.selectors left came))

-- ---- The sort keys that are touched

abbrev pub touches_at : Owner → Direction → Addr → ℕ → RowKey → Bool
touches_at owner side a n t = same_sort_key (named_sort_key t) (sort_key_at owner side a n)

module _ (slots : Slots) (owner : Owner) (side : Direction) (a : Addr) (n : ℕ) (held : UrlPolicy) (holds : held_by slots owner ≡ Some held) (entry : Entry) where
  entry_touched : (b : Binding) → concerns held.url entry.selectors a b ≡ true → list_any (touches_at owner side a n) (entry_touch b.key b.addr (owner, held) side (n, entry)) ≡ true
  unfolding entry_touch named_sort_key
  entry_touched b e =
      let here : b.addr ≡ a = sym (same_addr_exact a b.addr (first_so (same_addr a b.addr) _ e)) in
      ap (λ (c : Bool). list_any (touches_at owner side a n) (cond c (row_key owner side b.addr n ∷ []) [])) (second_so (same_addr a b.addr) _ e)
      ∙ or_left _ _ (subst (λ (x : Addr). same_sort_key (sort_key_at owner side x n) (sort_key_at owner side a n) ≡ true) (sym here) (same_sort_key_itself (sort_key_at owner side a n)))

  side_touched : (b : Binding) → entry_at n (entries_of side held.policy) ≡ Some entry → concerns held.url entry.selectors a b ≡ true → list_any (touches_at owner side a n) (side_touches b.key b.addr (owner, held) side) ≡ true
  unfolding side_touches
  side_touched b stands e =
      any-flat_map (touches_at owner side a n) (entry_touch b.key b.addr (owner, held) side) (numbered 1 (entries_of side held.policy))
      ∙ any_entry (λ x. list_any (touches_at owner side a n) (entry_touch b.key b.addr (owner, held) side x)) (entries_of side held.policy) n entry stands (entry_touched b e)

holder_touched : (key : MemberKey) (b a : Addr) (owner : Owner) (held : UrlPolicy) (side : Direction) (n : ℕ) → list_any (touches_at owner side a n) (side_touches key b (owner, held) side) ≡ true → list_any (touches_at owner side a n) (holder_touches key b (owner, held)) ≡ true
unfolding holder_touches
holder_touched key b a owner held From n e = list_any-append (touches_at owner From a n) (side_touches key b (owner, held) From) (side_touches key b (owner, held) To) ∙ or_left _ _ e
holder_touched key b a owner held To n e = list_any-append (touches_at owner To a n) (side_touches key b (owner, held) From) (side_touches key b (owner, held) To) ∙ or_right (list_any (touches_at owner To a n) (side_touches key b (owner, held) From)) _ e

binding_touched : (slots : Slots) (owner : Owner) (side : Direction) (a : Addr) (n : ℕ) (held : UrlPolicy) (entry : Entry) → held_by slots owner ≡ Some held → entry_at n (entries_of side held.policy) ≡ Some entry → (b : Binding) → concerns held.url entry.selectors a b ≡ true → list_any (touches_at owner side a n) (binding_touches slots b) ≡ true
unfolding binding_touches
binding_touched slots owner side a n held entry holds stands b e =
    any-flat_map (touches_at owner side a n) (holder_touches b.key b.addr) (holders_from 0 slots)
    ∙ held_complete (λ (h : Holder). list_any (touches_at owner side a n) (holder_touches b.key b.addr h)) slots owner held holds
    (holder_touched b.key b.addr a owner held side n (side_touched slots owner side a n held holds entry b stands e))

-- what isn't touched isn't concerned
not_concerned : (slots : Slots) (owner : Owner) (side : Direction) (a : Addr) (n : ℕ) (held : UrlPolicy) (entry : Entry) → held_by slots owner ≡ Some held → entry_at n (entries_of side held.policy) ≡ Some entry → (changed : List Binding) → list_any (touches_at owner side a n) (touches slots changed) ≡ false → list_any (concerns held.url entry.selectors a) changed ≡ false
unfolding touches
not_concerned slots owner side a n held entry holds stands changed none =
    any_none_implied (concerns held.url entry.selectors a) (λ (b : Binding). list_any (touches_at owner side a n) (binding_touches slots b)) (binding_touched slots owner side a n held entry holds stands) changed
    (sym (any-flat_map (touches_at owner side a n) (binding_touches slots) changed) ∙ none)

module _ (slots : Slots) (gone come bindings : List Binding) (up : SortKeysAscend binding_sort_key bindings) (owner : Owner) (side : Direction) (a : Addr) (n : ℕ) (none : list_any (touches_at owner side a n) (touches slots (gone ++ come)) ≡ false) where
  untouched_entry : (held : UrlPolicy) → held_by slots owner ≡ Some held → (o : Option Entry) → entry_at n (entries_of side held.policy) ≡ o → option_and_then (λ (entry : Entry). entry_expiry (replaced gone come bindings) held.url entry a) o ≡ option_and_then (λ (entry : Entry). entry_expiry bindings held.url entry a) o
  untouched_entry held h None is = refl
  untouched_entry held h (Some entry) is =
      let all : list_any (concerns held.url entry.selectors a) (gone ++ come) ≡ false = not_concerned slots owner side a n held entry h is (gone ++ come) none in
      let each : (list_any (concerns held.url entry.selectors a) gone || list_any (concerns held.url entry.selectors a) come) ≡ false = sym (list_any-append (concerns held.url entry.selectors a) gone come) ∙ all in
      entry_kept gone come bindings up a held.url entry (or_first _ _ each) (or_second (list_any (concerns held.url entry.selectors a) gone) _ each)

  untouched_holder : (o : Option UrlPolicy) → held_by slots owner ≡ o → option_and_then (held_expiry (replaced gone come bindings) side a n) o ≡ option_and_then (held_expiry bindings side a n) o
  unfolding held_expiry
  untouched_holder None is = refl
  untouched_holder (Some held) is = untouched_entry held is (entry_at n (entries_of side held.policy)) refl

  -- at a sort key that isn't touched the expiry stays
  pub untouched : expiry_at slots (replaced gone come bindings) owner side a n ≡ expiry_at slots bindings owner side a n
  unfolding expiry_at
  untouched = untouched_holder (held_by slots owner) refl
