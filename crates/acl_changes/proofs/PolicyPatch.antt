-- A policy that comes, goes or is replaced touches its new entries at the addresses of their first keys, and the old rows
-- that aren't asked for any more; and its edits make the rows anew.
use Rattle.std.proofs.Common.{◌≡◌, ℕ, ◌⊎◌, inl, inr, Bool, true, false, cond, ◌&&◌, ◌||◌, List, [], ◌∷◌, ◌++◌, map, Option, Some, None, refl, sym, ap, subst, ◌∙◌}
use Rattle.std.specs.Prelude.{◌≢◌, filter, find, nat_eq, is_none}
use Rattle.std.specs.Option.{option_map, option_and_then}
use Rattle.std.specs.List.{list_any, starts_with}
use Rattle.std.proofs.lemmas.Bool.{false≢true, eq-eqb, or_left, or_right}
use Rattle.std.proofs.lemmas.Bool.Decides.{eqb_tells}
use Rattle.std.proofs.lemmas.Option.{same_Some, none-some}
use Rattle.std.proofs.lemmas.List.Folds.{list_any-append}
use Rattle.std.specs.Cmp.{first_so, second_so}
use Rattle.base_rows.specs.Sortable.{same_sort_key, row_at, is_under}
use Rattle.base_rows.proofs.SortableLaws.{same_sort_key_itself, same_sort_key_exact}
use Rattle.mud_base.specs.Addresses.{same_addr}
use Rattle.mud_base.specs.declared.addr.Addr.{Addr}
use Rattle.mud_base.specs.declared.packet.Direction.{Direction}
use Rattle.mud_base.specs.declared.packet.Direction.TheVariants.{From, To}
use Rattle.base_rows.specs.Addresses.{addr_sort_key}
use Rattle.base_rows.proofs.ListTests.{or_first, or_second, any-flat_map}
use Rattle.acl_model.specs.declared.entry.Entry.{Entry}
use Rattle.acl_model.specs.declared.binding.MemberKey.{MemberKey}
use Rattle.acl_model.specs.declared.binding.Binding.{Binding}
use Rattle.acl_model.specs.Keys.{is_membered, same_key}
use Rattle.acl_model.specs.SortKeys.{member_sort_key, bound_sort_key, binding_sort_key}
use Rattle.acl_model.specs.Changes.{is_bound_to}
use Rattle.acl_model.specs.FirstMatch.{entries_of}
use Rattle.acl_model.specs.Policies.{UrlPolicy}
use Rattle.acl_model.proofs.BindingLaws.{same_addr_exact}
use Rattle.acl_model.proofs.KeyLaws.{same_key-Decides}
use Rattle.acl_rows.specs.declared.row.Owner.{Owner}
use Rattle.acl_rows.specs.declared.row.Owner.TheVariants.{Url, Default}
use Rattle.acl_rows.specs.declared.row.Row.{Row}
use Rattle.acl_rows.specs.SortKeys.{owner_class, owner_number, owner_sort_key, side_sort_key, peer_sort_key, sort_key_at, row_sort_key, named_sort_key}
use Rattle.acl_rows.specs.Rows.{for_ever, member_keys, entry_expiry, row, numbered, Slots, held_by, entry_at, held_expiry, expiry_at, rows_of}
use Rattle.acl_rows.proofs.Coordinates.{AreSame, same_coordinates}
use Rattle.acl_rows.proofs.Sound.{HasKeys, has_keys, IsBound, first_bound, HasExpiry, has_expiry, IsHeld, is_held, any_entry}
use Rattle.acl_rows.proofs.AtSortKeys.{row_at-rows_of}
use Rattle.acl_buckets.specs.BindingBuckets.{bindings_of_key}
use Rattle.acl_changes.specs.Patch.{expiry_for, IsPatch}
use Rattle.acl_changes.specs.Touched.{with_edits}
use Rattle.acl_changes.specs.PolicyTouched.{bound_key, first_key_touches, entry_touches, side_policy_touches, new_touches, owner_rows, key_of_row, is_left, left_touches, policy_touches, IsSlotChange}
use Rattle.acl_changes.proofs.Untouched.{touches_at}
use Rattle.acl_changes.proofs.Edits.{patch_of}

-- ---- Tests of the elements of a list

module _ {A : Type 0} (r : A → Bool) where
  kept_by : (t : A → Bool) (x : A) (xs : List A) → (r x ≡ true → t x ≡ true) → (list_any r xs ≡ true → list_any r (filter t xs) ≡ true)
      → (b : Bool) → r x ≡ b → (b || list_any r xs) ≡ true → (c : Bool) → t x ≡ c → list_any r (cond c (x ∷ filter t xs) (filter t xs)) ≡ true
  kept_by t x xs one rest true is any true kept = or_left (r x) _ is
  kept_by t x xs one rest true is any false kept = absurd (false≢true (sym kept ∙ one is))
  kept_by t x xs one rest false is any true kept = or_right (r x) _ (rest any)
  kept_by t x xs one rest false is any false kept = rest any

  -- an element that passes one test passes also among those that pass another, which it passes
  any_filter : (t : A → Bool) → ((x : A) → r x ≡ true → t x ≡ true) → (xs : List A) → list_any r xs ≡ true → list_any r (filter t xs) ≡ true
  any_filter t implied [] any = any
  any_filter t implied (x ∷ xs) any = kept_by t x xs (implied x) (any_filter t implied xs) (r x) refl any (t x) refl

  map_by : {B : Type 0} (q : B → Bool) (f : A → B) (x : A) (xs : List A) → (r x ≡ true → q (f x) ≡ true) → (list_any r xs ≡ true → list_any q (map f xs) ≡ true) → (b : Bool) → r x ≡ b → (b || list_any r xs) ≡ true → (q (f x) || list_any q (map f xs)) ≡ true
  map_by q f x xs one rest true is any = or_left (q (f x)) _ (one is)
  map_by q f x xs one rest false is any = or_right (q (f x)) _ (rest any)

  any_map : {B : Type 0} (q : B → Bool) (f : A → B) → ((x : A) → r x ≡ true → q (f x) ≡ true) → (xs : List A) → list_any r xs ≡ true → list_any q (map f xs) ≡ true
  any_map q f implied [] any = absurd (false≢true any)
  any_map q f implied (x ∷ xs) any = map_by q f x xs (implied x) (any_map q f implied xs) (r x) refl any

  found_by : (x c : A) (xs : List A) → (find r xs ≡ Some c → list_any r xs ≡ true) → (b : Bool) → cond b (Some x) (find r xs) ≡ Some c → (b || list_any r xs) ≡ true
  found_by x c xs rest true e = refl
  found_by x c xs rest false e = rest e

  any_found : (xs : List A) (c : A) → find r xs ≡ Some c → list_any r xs ≡ true
  any_found [] c e = absurd (none-some c e)
  any_found (x ∷ xs) c e = found_by x c xs (any_found xs c) (r x) e

any_by : (p : List ℕ) (x y : Row) (xs : List Row) (b : Bool) → (row_at row_sort_key p xs ≡ Some y → list_any (λ z. same_sort_key (row_sort_key z) p) xs ≡ true) → cond b (Some x) (row_at row_sort_key p xs) ≡ Some y → (b || list_any (λ z. same_sort_key (row_sort_key z) p) xs) ≡ true
any_by p x y xs true rest e = refl
any_by p x y xs false rest e = rest e

any_row : (p : List ℕ) (y : Row) (rows : List Row) → row_at row_sort_key p rows ≡ Some y → list_any (λ z. same_sort_key (row_sort_key z) p) rows ≡ true
any_row p y [] e = absurd (none-some y e)
any_row p y (x ∷ xs) e = any_by p x y xs (same_sort_key (row_sort_key x) p) (any_row p y xs) e

-- ---- Rows that aren't asked for any more are touched

module _ (owner : Owner) (side : Direction) (a : Addr) (n : ℕ) where
  abbrev is_here : Row → Bool
  is_here x = same_sort_key (row_sort_key x) (sort_key_at owner side a n)

  of_owner : (x : Row) → is_here x ≡ true → is_under row_sort_key (owner_sort_key owner) x ≡ true
  unfolding sort_key_at peer_sort_key side_sort_key owner_sort_key owner_class owner_number
  of_owner x e =
      let itself : (nat_eq (owner_class owner) (owner_class owner) && (nat_eq (owner_number owner) (owner_number owner) && true)) ≡ true = rw (eq-eqb (owner_class owner) (owner_class owner) refl, eq-eqb (owner_number owner) (owner_number owner) refl) refl in
      subst (λ (p : List ℕ). starts_with nat_eq p (owner_class owner ∷ (owner_number owner ∷ [])) ≡ true) (sym (same_sort_key_exact (row_sort_key x) (sort_key_at owner side a n) e)) itself

  left_here : (slots : Slots) (bindings : List Binding) → expiry_at slots bindings owner side a n ≡ None → (x : Row) → is_here x ≡ true → is_left slots bindings x ≡ true
  unfolding is_left expiry_for row_sort_key
  left_here slots bindings none x e =
      let same : AreSame x.owner owner x.side side x.addr a x.entry n = same_coordinates x.owner owner x.side side x.addr a x.entry n (same_sort_key_exact (row_sort_key x) (sort_key_at owner side a n) e) in
      ap is_none ((λ i. expiry_at slots bindings (same.owner i) (same.side i) (same.addr i) (same.number i)) ∙ none)

  key_here : (x : Row) → is_here x ≡ true → touches_at owner side a n (key_of_row x) ≡ true
  unfolding key_of_row named_sort_key row_sort_key
  key_here x e = e

  -- where there was an expiry and is none, there is a row that is touched
  left_touched : (slots slots' : Slots) (bindings : List Binding) (u : ℕ) → expiry_at slots bindings owner side a n ≡ Some u → expiry_at slots' bindings owner side a n ≡ None → list_any (touches_at owner side a n) (left_touches slots' bindings (rows_of slots bindings) owner) ≡ true
  unfolding left_touches owner_rows
  left_touched slots slots' bindings u e none =
      any_map is_here (touches_at owner side a n) key_of_row key_here _
      (any_filter is_here (is_left slots' bindings) (left_here slots' bindings none) _
      (any_filter is_here (is_under row_sort_key (owner_sort_key owner)) of_owner (rows_of slots bindings)
      (any_row (sort_key_at owner side a n) (row owner side a n u) (rows_of slots bindings) (row_at-rows_of slots bindings owner side a n ∙ ap (option_map (row owner side a n)) e))))

  -- ---- Addresses of the first key are touched

  begins : (p q : List ℕ) → starts_with nat_eq (p ++ q) p ≡ true
  begins [] q = refl
  begins (x ∷ p) q = ap (λ (b : Bool). b && starts_with nat_eq (p ++ q) p) (eq-eqb x x refl) ∙ begins p q

  under_key : (key : MemberKey) (b : Binding) → is_bound_to key a b ≡ true → is_under binding_sort_key (member_sort_key key) b ≡ true
  unfolding is_bound_to binding_sort_key bound_sort_key
  under_key key b e =
      let same : key ≡ b.key = (same_key-Decides key b.key).0 (first_so (same_key key b.key) (same_addr a b.addr) e) in
      subst (λ (k : MemberKey). starts_with nat_eq (member_sort_key k ++ addr_sort_key b.addr) (member_sort_key key) ≡ true) same (begins (member_sort_key key) (addr_sort_key b.addr))

  bound_here : (key : MemberKey) (b : Binding) → is_bound_to key a b ≡ true → touches_at owner side a n (bound_key owner side n b) ≡ true
  unfolding is_bound_to bound_key named_sort_key
  bound_here key b e = subst (λ (y : Addr). same_sort_key (sort_key_at owner side y n) (sort_key_at owner side a n) ≡ true) (same_addr_exact a b.addr (second_so (same_key key b.key) (same_addr a b.addr) e)) (same_sort_key_itself (sort_key_at owner side a n))

  bound_touched : (key : MemberKey) (c : Binding) (bs : List Binding) → find (is_bound_to key a) bs ≡ Some c → list_any (touches_at owner side a n) (map (bound_key owner side n) (bindings_of_key key bs)) ≡ true
  unfolding bindings_of_key
  bound_touched key c bs e =
      any_map (is_bound_to key a) (touches_at owner side a n) (bound_key owner side n) (bound_here key) _
      (any_filter (is_bound_to key a) (is_under binding_sort_key (member_sort_key key)) (under_key key) bs (any_found (is_bound_to key a) bs c e))

entry_touched : (bindings : List Binding) (owner : Owner) (side : Direction) (a : Addr) (n u : ℕ) (held : UrlPolicy) (entry : Entry) → entry_expiry bindings held.url entry a ≡ Some u → list_any (touches_at owner side a n) (entry_touches bindings owner held side (n, entry)) ≡ true
unfolding entry_touches first_key_touches member_keys is_membered
entry_touched bindings owner side a n u held entry e =
    let expiry : HasExpiry bindings held.url entry a u = has_expiry bindings held.url entry a u e in
    let keys : HasKeys (member_keys held.url entry) = has_keys held.url entry.selectors expiry.membered in
    let bound : IsBound bindings keys.key a = first_bound bindings a for_ever u (member_keys held.url entry) keys expiry.least in
    subst (λ (ks : List MemberKey). list_any (touches_at owner side a n) (first_key_touches bindings owner side n ks) ≡ true) (sym keys.are) (bound_touched owner side a n keys.key bound.binding bindings bound.found)

side_touched : (bindings : List Binding) (owner : Owner) (side : Direction) (a : Addr) (n u : ℕ) (held : UrlPolicy) (entry : Entry) → entry_at n (entries_of side held.policy) ≡ Some entry → entry_expiry bindings held.url entry a ≡ Some u → list_any (touches_at owner side a n) (side_policy_touches bindings owner held side) ≡ true
unfolding side_policy_touches
side_touched bindings owner side a n u held entry stands e =
    any-flat_map (touches_at owner side a n) (entry_touches bindings owner held side) (numbered 1 (entries_of side held.policy))
    ∙ any_entry (λ x. list_any (touches_at owner side a n) (entry_touches bindings owner held side x)) (entries_of side held.policy) n entry stands (entry_touched bindings owner side a n u held entry e)

both_sides : (bindings : List Binding) (owner : Owner) (side : Direction) (a : Addr) (n : ℕ) (held : UrlPolicy) → list_any (touches_at owner side a n) (side_policy_touches bindings owner held side) ≡ true → list_any (touches_at owner side a n) (side_policy_touches bindings owner held From ++ side_policy_touches bindings owner held To) ≡ true
both_sides bindings owner From a n held e = list_any-append (touches_at owner From a n) (side_policy_touches bindings owner held From) (side_policy_touches bindings owner held To) ∙ or_left _ _ e
both_sides bindings owner To a n held e = list_any-append (touches_at owner To a n) (side_policy_touches bindings owner held From) (side_policy_touches bindings owner held To) ∙ or_right (list_any (touches_at owner To a n) (side_policy_touches bindings owner held From)) _ e

pub new_by : (slots' : Slots) (bindings : List Binding) (owner : Owner) (side : Direction) (a : Addr) (n u : ℕ) (new : Option UrlPolicy) → held_by slots' owner ≡ new → expiry_at slots' bindings owner side a n ≡ Some u → list_any (touches_at owner side a n) (new_touches bindings owner new) ≡ true
unfolding new_touches
new_by slots' bindings owner side a n u None is e = let held : IsHeld slots' bindings owner side a n u = is_held slots' bindings owner side a n u e in absurd (none-some held.held (sym is ∙ held.holds))
new_by slots' bindings owner side a n u (Some policy) is e =
    let held : IsHeld slots' bindings owner side a n u = is_held slots' bindings owner side a n u e in
    let same : held.held ≡ policy = same_Some held.held policy (sym held.holds ∙ is) in
    both_sides bindings owner side a n policy (side_touched bindings owner side a n u policy held.entry (ap (λ (h : UrlPolicy). entry_at n (entries_of side h.policy)) (sym same) ∙ held.stands) (ap (λ (h : UrlPolicy). entry_expiry bindings h.url held.entry a) (sym same) ∙ held.expiry))

-- ---- What isn't touched stays

module _ (slots slots' : Slots) (bindings : List Binding) (i : ℕ) (new : Option UrlPolicy) (change : IsSlotChange slots slots' i new) where
  other_owner : (owner : Owner) (side : Direction) (a : Addr) (n : ℕ) → held_by slots' owner ≡ held_by slots owner → expiry_at slots' bindings owner side a n ≡ expiry_at slots bindings owner side a n
  unfolding expiry_at
  other_owner owner side a n same = ap (option_and_then (held_expiry bindings side a n)) same

  own_by : (side : Direction) (a : Addr) (n : ℕ) → list_any (touches_at (Url i) side a n) (new_touches bindings (Url i) new) ≡ false → list_any (touches_at (Url i) side a n) (left_touches slots' bindings (rows_of slots bindings) (Url i)) ≡ false
      → (o w : Option ℕ) → expiry_at slots' bindings (Url i) side a n ≡ o → expiry_at slots bindings (Url i) side a n ≡ w → o ≡ w
  own_by side a n fresh left None None is was = refl
  own_by side a n fresh left None (Some u) is was = absurd (false≢true (sym left ∙ left_touched (Url i) side a n slots slots' bindings u was is))
  own_by side a n fresh left (Some u) w is was = absurd (false≢true (sym fresh ∙ new_by slots' bindings (Url i) side a n u new change.here is))

  own : (side : Direction) (a : Addr) (n : ℕ) → list_any (touches_at (Url i) side a n) (policy_touches slots' bindings (rows_of slots bindings) (Url i) new) ≡ false → expiry_at slots' bindings (Url i) side a n ≡ expiry_at slots bindings (Url i) side a n
  unfolding policy_touches
  own side a n none =
      let each : (list_any (touches_at (Url i) side a n) (new_touches bindings (Url i) new) || list_any (touches_at (Url i) side a n) (left_touches slots' bindings (rows_of slots bindings) (Url i))) ≡ false =
      sym (list_any-append (touches_at (Url i) side a n) (new_touches bindings (Url i) new) (left_touches slots' bindings (rows_of slots bindings) (Url i))) ∙ none in
      own_by side a n (or_first _ _ each) (or_second (list_any (touches_at (Url i) side a n) (new_touches bindings (Url i) new)) _ each) (expiry_at slots' bindings (Url i) side a n) (expiry_at slots bindings (Url i) side a n) refl refl

  by_number : (j : ℕ) (side : Direction) (a : Addr) (n : ℕ) → list_any (touches_at (Url j) side a n) (policy_touches slots' bindings (rows_of slots bindings) (Url i) new) ≡ false → ((nat_eq j i ≡ true) × (j ≡ i)) ⊎ ((nat_eq j i ≡ false) × (j ≢ i)) → expiry_at slots' bindings (Url j) side a n ≡ expiry_at slots bindings (Url j) side a n
  by_number j side a n none (inl same) =
      let at : j ≡ i = same.1 in
      subst (λ (k : ℕ). expiry_at slots' bindings (Url k) side a n ≡ expiry_at slots bindings (Url k) side a n) (sym at)
      (own side a n (subst (λ (k : ℕ). list_any (touches_at (Url k) side a n) (policy_touches slots' bindings (rows_of slots bindings) (Url i) new) ≡ false) at none))
  by_number j side a n none (inr other) = other_owner (Url j) side a n (change.others j other.1)

  pub policy_untouched : (owner : Owner) (side : Direction) (a : Addr) (n : ℕ) → list_any (touches_at owner side a n) (policy_touches slots' bindings (rows_of slots bindings) (Url i) new) ≡ false → expiry_at slots' bindings owner side a n ≡ expiry_at slots bindings owner side a n
  unfolding held_by
  policy_untouched (Url j) side a n none = by_number j side a n none (eqb_tells j i)
  policy_untouched Default side a n none = other_owner Default side a n refl

  -- the edits of the sort keys that a policy touches
  pub policy_patch : IsPatch slots bindings slots' bindings (with_edits slots bindings slots' bindings (policy_touches slots' bindings (rows_of slots bindings) (Url i) new) [])
  policy_patch = patch_of slots bindings slots' bindings (policy_touches slots' bindings (rows_of slots bindings) (Url i) new) policy_untouched
