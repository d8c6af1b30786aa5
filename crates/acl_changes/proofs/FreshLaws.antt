-- The rows that a new policy asks for, one after the other.
use Rattle.std.proofs.Common.{◌≡◌, ℕ, zero, suc, ◌+◌, ◌*◌, ◌<◌, ◌≤◌, Bool, true, false, cond, List, [], ◌∷◌, ◌++◌, map, length, drop, get_or, ◌||◌, Option, Some, None, Result, Ok, Err, OnOk, IfOk, refl, sym, ap, subst, ◌∙◌, arith}
use Rattle.std.specs.Option.{option_map}
use Rattle.std.specs.List.{filter_map, cons_option, list_any, slice_get, AllByRecursion}
use Rattle.std.proofs.Math.Seq.{drop-cons}
use Rattle.std.specs.Option.{is_some}
use Rattle.std.proofs.Math.Nat.{mul-le-mul_right}
use Rattle.std.proofs.lemmas.Option.{none-some, same_Some, slice_get_read}
use Rattle.std.proofs.lemmas.Bool.{or_left, or_right}
use Rattle.base_rows.specs.Sortable.{row_at, set_row, rows_under, index_in, SortKeysAscend}
use Rattle.base_rows.proofs.SortableLaws.{index_in_row}
use Rattle.mud_base.specs.declared.addr.Addr.{Addr}
use Rattle.mud_base.specs.declared.packet.Direction.{Direction}
use Rattle.acl_model.specs.declared.entry.Entry.{Entry}
use Rattle.acl_model.specs.declared.entry.Selector.{Selector}
use Rattle.acl_model.specs.declared.binding.MemberKey.{MemberKey}
use Rattle.acl_model.specs.declared.binding.Binding.{Binding}
use Rattle.acl_model.specs.Keys.{key_of, is_member, is_membered}
use Rattle.acl_model.specs.SortKeys.{key_kind, key_text, member_sort_key, text_sort_key, binding_sort_key}
use Rattle.acl_model.specs.Changes.{without_bindings, replaced}
use Rattle.acl_model.proofs.KeyLaws.{is_some-key_of}
use Rattle.acl_model.specs.FirstMatch.{entries_of}
use Rattle.acl_model.specs.Policies.{UrlPolicy}
use Rattle.base_rows.specs.declared.edit.Edit.{Edit}
use Rattle.base_rows.specs.Edits.{edit, edit_sort_key}
use Rattle.acl_rows.specs.declared.row.Owner.{Owner}
use Rattle.acl_rows.specs.declared.row.Row.{Row}
use Rattle.acl_rows.specs.declared.row.RowKey.{RowKey}
use Rattle.acl_rows.specs.SortKeys.{row_sort_key, named_sort_key}
use Rattle.acl_rows.specs.ByAddress.{rows_of_peer, index_beside}
use Rattle.acl_rows.specs.Rows.{Slots, rows_of, member_keys, held_by, entry_at, entry_expiry}
use Rattle.acl_rows.proofs.Sound.{expiry_at-entry}
use Rattle.acl_buckets.specs.BindingBuckets.{bindings_of_key}
use Rattle.acl_changes.specs.Touched.{row_key, key_expiry, changed_edits}
use Rattle.acl_changes.specs.PolicyTouched.{bound_key, first_key_touches}
use Rattle.acl_changes.specs.EntryKeys.{key_parts}
use Rattle.acl_changes.specs.Change.{ChangeState, after, expiry_of_row}
use Rattle.acl_changes.specs.Fresh.{Fresh, fresh_of, row_with, expiry_kept, one_fresh, more_fresh, first_of, rest_of, membered_count, AreOfPeer, gone_edit, left_edits}
use Rattle.acl_changes.proofs.OneEdit.{asked_edit, was}

-- ---- The first key

pub first_some : (p : ℕ × List ℕ) (o : Option MemberKey) (keys : List MemberKey) → (let q : Option (ℕ × List ℕ) = Some p in q ≡ option_map key_parts o) → (let q : Option (ℕ × List ℕ) = Some p in q ≡ option_map key_parts (first_of (cons_option o keys)))
unfolding first_of
first_some p None keys is = absurd (none-some p (sym is))
first_some p (Some key) keys is = is

pub behind_some : (p : ℕ × List ℕ) (o : Option MemberKey) (keys : List MemberKey) → (let q : Option (ℕ × List ℕ) = Some p in q ≡ option_map key_parts o) → keys ≡ rest_of (cons_option o keys)
unfolding rest_of
behind_some p None keys is = absurd (none-some p (sym is))
behind_some p (Some key) keys is = refl

pub no_key : (o : Option MemberKey) (keys : List MemberKey) → (let q : Option (ℕ × List ℕ) = None in q ≡ option_map key_parts o) → cons_option o keys ≡ keys
no_key None keys is = refl
no_key (Some key) keys is = absurd (none-some (key_parts key) is)

-- ---- One more sort key

module _ (slots : Slots) (bindings : List Binding) (new : Slots) where
  pub more_fresh-append : (xs ys : List RowKey) (s : Fresh) → more_fresh slots bindings new (xs ++ ys) s ≡ more_fresh slots bindings new ys (more_fresh slots bindings new xs s)
  unfolding more_fresh
  more_fresh-append [] ys s = refl
  more_fresh-append (x ∷ xs) ys s = more_fresh-append xs ys (one_fresh slots bindings new x s)

  pub one-more : (x : RowKey) (xs : List RowKey) (s : Fresh) → more_fresh slots bindings new (x ∷ xs) s ≡ more_fresh slots bindings new xs (one_fresh slots bindings new x s)
  unfolding more_fresh
  one-more x xs s = refl

  pub none-more : (s : Fresh) → more_fresh slots bindings new [] s ≡ s
  unfolding more_fresh
  none-more s = refl

-- the expiry that is asked at the sort key of an entry
pub entry_asked : (new : Slots) (bindings : List Binding) (owner : Owner) (side : Direction) (a : Addr) (n : ℕ) (held : UrlPolicy) (entry : Entry) → held_by new owner ≡ Some held → entry_at n (entries_of side held.policy) ≡ Some entry → entry_expiry bindings held.url entry a ≡ key_expiry new bindings (row_key owner side a n)
unfolding key_expiry
entry_asked new bindings owner side a n held entry holds stands = sym (expiry_at-entry new bindings owner side a n held entry holds stands)

module _ (slots : Slots) (bindings : List Binding) (new : Slots) (rows : List Row) (kept : rows ≡ rows_of slots bindings) (key : RowKey) where
  -- the edit of a key, and its row where one stood and one is asked for
  pub fresh_is : (old until : Option ℕ) (edits : List (Edit Row)) (s : Fresh) → old ≡ expiry_of_row (row_at row_sort_key (named_sort_key key) rows) → until ≡ key_expiry new bindings key
      → edits ≡ changed_edits key (index_beside key.owner key.side key.addr (named_sort_key key) rows) old until s.edits
      → fresh_of edits (row_with key (expiry_kept old until) s.rows) ≡ one_fresh slots bindings new key s
  unfolding one_fresh
  fresh_is old until edits s was' is made =
      let asked = made ∙ ap (λ (o : Option ℕ). changed_edits key (index_beside key.owner key.side key.addr (named_sort_key key) rows) o until s.edits) was' ∙ asked_edit slots bindings new rows kept key until s.edits is in
      let stood = was' ∙ was slots bindings new rows kept key in
      λ i. fresh_of (asked i) (row_with key (expiry_kept (stood i) (is i)) s.rows)

-- ---- The next one of a list

pub next_bound : (owner : Owner) (side : Direction) (n : ℕ) (bs : List Binding) (i : ℕ) (b : Binding) → i < length bs → b ≡ get_or bs i b → map (bound_key owner side n) (drop i bs) ≡ bound_key owner side n b ∷ map (bound_key owner side n) (drop (i + 1) bs)
next_bound owner side n bs i b lt is = ap (λ (xs : List Binding). map (bound_key owner side n) xs) (drop-cons bs i b lt ∙ (λ j. sym is j ∷ drop (next j) bs))
  where
    next : suc i ≡ i + 1
    next = omega arith

-- ---- Answers that can fail

pub on_ok_always : {A E : Type 0} (P : Type 0) → P → (r : Result A E) → OnOk r P
on_ok_always P p (Ok v) = p
on_ok_always P p (Err e) = tt

pub if_ok_map : {A E : Type 0} (P Q : A → Type 0) → ((a : A) → P a → Q a) → (r : Result A E) → IfOk r P → IfOk r Q
if_ok_map P Q f (Ok v) h = f v h
if_ok_map P Q f (Err e) h = tt

-- ---- A change of no binding

pub after_same : (c : ChangeState) → c.gone ≡ [] → c.come ≡ [] → after c ≡ c.bindings
unfolding after replaced without_bindings
after_same c gone come = (λ i. replaced (gone i) (come i) c.bindings)

-- ---- The touches of an entry

pub no_first : (bindings : List Binding) (owner : Owner) (side : Direction) (n : ℕ) (keys : List MemberKey) → (let q : Option (ℕ × List ℕ) = None in q ≡ option_map key_parts (first_of keys)) → first_key_touches bindings owner side n keys ≡ []
unfolding first_of first_key_touches
no_first bindings owner side n [] is = refl
no_first bindings owner side n (key ∷ keys) is = absurd (none-some (key_parts key) is)

pub some_first : (bindings : List Binding) (owner : Owner) (side : Direction) (n : ℕ) (kind : ℕ) (text : List ℕ) (keys : List MemberKey) → (let q : Option (ℕ × List ℕ) = Some (kind, text) in q ≡ option_map key_parts (first_of keys))
    → first_key_touches bindings owner side n keys ≡ map (bound_key owner side n) (rows_under binding_sort_key (text_sort_key kind text) bindings)
unfolding first_of first_key_touches bindings_of_key key_parts member_sort_key
some_first bindings owner side n kind text [] is = absurd (none-some (kind, text) (sym is))
some_first bindings owner side n kind text (key ∷ keys) is = (λ i. map (bound_key owner side n) (rows_under binding_sort_key (text_sort_key (sym (parts key is) i).0 (sym (parts key is) i).1) bindings))
  where
    parts : (key : MemberKey) → (let q : Option (ℕ × List ℕ) = Some (kind, text) in q ≡ Some (key_kind key, key_text key)) → (let p : ℕ × List ℕ = (kind, text) in p ≡ (key_kind key, key_text key))
    parts key is = same_Some (kind, text) (key_kind key, key_text key) is

member_by : (url : List ℕ) (s : Selector) (ss : List Selector) (p : ℕ × List ℕ) → ((let q : Option (ℕ × List ℕ) = Some p in q ≡ option_map key_parts (first_of (filter_map (key_of url) ss))) → list_any is_member ss ≡ true)
    → (o : Option MemberKey) → key_of url s ≡ o → (let q : Option (ℕ × List ℕ) = Some p in q ≡ option_map key_parts (first_of (cons_option o (filter_map (key_of url) ss)))) → (is_member s || list_any is_member ss) ≡ true
unfolding first_of
member_by url s ss p rest None is first = or_right (is_member s) _ (rest first)
member_by url s ss p rest (Some key) is first = or_left (is_member s) _ (sym (is_some-key_of url s) ∙ ap is_some is)

pub has_member : (url : List ℕ) (ss : List Selector) (p : ℕ × List ℕ) → (let q : Option (ℕ × List ℕ) = Some p in q ≡ option_map key_parts (first_of (filter_map (key_of url) ss))) → list_any is_member ss ≡ true
unfolding first_of
has_member url [] p first = absurd (none-some p (sym first))
has_member url (s ∷ ss) p first = member_by url s ss p (has_member url ss p) (key_of url s) refl first

pub counts_one : (url : List ℕ) (entry : Entry) (p : ℕ × List ℕ) → (let q : Option (ℕ × List ℕ) = Some p in q ≡ option_map key_parts (first_of (member_keys url entry))) → membered_count (entry ∷ []) ≡ 1
unfolding membered_count is_membered member_keys
counts_one url entry p first = ap (λ (b : Bool). length (cond b (entry ∷ []) [])) (has_member url entry.selectors p first)

-- ---- Steps

pub one_more_sort_key : (start now end i n u : ℕ) → i < n → now ≤ start + i * u → end ≤ now + u → end ≤ start + n * u
one_more_sort_key start now end i n u lt so_far one =
    let up : i + 1 ≤ n = omega arith in
    let most : (i + 1) * u ≤ n * u = mul-le-mul_right u up in
    omega (arith, most)

pub all_sort_keys : (start now i n u : ℕ) → i ≤ n → now ≤ start + i * u → now ≤ start + n * u
all_sort_keys start now i n u le so_far =
    let most : i * u ≤ n * u = mul-le-mul_right u le in
    omega (arith, most)

-- ---- Rows that aren't asked for any more

peer_here : (P : Row → Type 0) (rows : List Row) (i : ℕ) (r : Row) → AllByRecursion P rows → slice_get rows i ≡ Some r → P r
peer_here P [] i r all at = absurd (none-some r at)
peer_here P (x ∷ xs) zero r all at = subst P (same_Some x r at) all.0
peer_here P (x ∷ xs) (suc i) r all at = peer_here P xs i r all.1 at

-- among all rows of its owner, side and address a row has its own index
own_edit : (all own : List Row) (i n : ℕ) (r : Row) → SortKeysAscend row_sort_key own → AreOfPeer own all → i < length own → r ≡ get_or own i r → n ≡ i → edit r false (Ok n) ≡ gone_edit all r
unfolding index_beside
own_edit all own i n r up peer lt is here =
    let at : slice_get own i ≡ Some r = slice_get_read own (length own) i r refl lt is in
    let same : own ≡ rows_of_peer r.owner r.side r.addr all = peer_here (λ x. own ≡ rows_of_peer x.owner x.side x.addr all) own i r peer at in
    ap (edit r false) (ap Ok here ∙ sym (index_in_row row_sort_key own i r up at) ∙ ap (index_in row_sort_key (row_sort_key r)) same)

next_left : (all new own : List Row) (i : ℕ) (r : Row) (edits : List (Edit Row)) → i < length own → r ≡ get_or own i r → (b : Bool) → is_some (row_at row_sort_key (row_sort_key r) new) ≡ b
    → left_edits all new (drop i own) edits ≡ left_edits all new (drop (i + 1) own) (cond b edits (set_row (edit_sort_key row_sort_key) (gone_edit all r) edits))
unfolding left_edits
next_left all new own i r edits lt is b kept =
    ap (λ (xs : List Row). left_edits all new xs edits) (drop-cons own i r lt ∙ (λ j. sym is j ∷ drop (next j) own))
    ∙ ap (λ (c : Bool). left_edits all new (drop (i + 1) own) (cond c edits (set_row (edit_sort_key row_sort_key) (gone_edit all r) edits))) kept
  where
    next : suc i ≡ i + 1
    next = omega arith

-- the next row is among the new ones
pub left_stays : (all new own : List Row) (i : ℕ) (r : Row) (edits after : List (Edit Row)) → i < length own → r ≡ get_or own i r → is_some (row_at row_sort_key (row_sort_key r) new) ≡ true → after ≡ edits
    → left_edits all new (drop i own) edits ≡ left_edits all new (drop (i + 1) own) after
left_stays all new own i r edits after lt is there same = next_left all new own i r edits lt is true there ∙ ap (left_edits all new (drop (i + 1) own)) (sym same)

-- the next row goes
pub left_goes : (all new own : List Row) (i n : ℕ) (r : Row) (edits after : List (Edit Row)) → SortKeysAscend row_sort_key own → AreOfPeer own all → i < length own → r ≡ get_or own i r → n ≡ i
    → is_some (row_at row_sort_key (row_sort_key r) new) ≡ false → after ≡ set_row (edit_sort_key row_sort_key) (edit r false (Ok n)) edits → left_edits all new (drop i own) edits ≡ left_edits all new (drop (i + 1) own) after
left_goes all new own i n r edits after up peer lt is here gone made =
    next_left all new own i r edits lt is false gone
    ∙ ap (λ (e : Edit Row). left_edits all new (drop (i + 1) own) (set_row (edit_sort_key row_sort_key) e edits)) (sym (own_edit all own i n r up peer lt is here))
    ∙ ap (left_edits all new (drop (i + 1) own)) (sym made)
