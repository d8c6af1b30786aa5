-- The edits for a policy that comes, goes or is replaced are a patch.
use Rattle.std.proofs.Common.{◌≡◌, ℕ, ◌+◌, ◌*◌, ◌≤◌, Bool, true, false, cond, ◌||◌, List, [], ◌∷◌, ◌++◌, map, length, Option, Some, None, Result, refl, sym, ap, subst, ◌∙◌, arith, length-append}
use Rattle.std.specs.Prelude.{filter}
use Rattle.std.specs.Option.{option_map, is_some, is_none}
use Rattle.std.specs.List.{list_any, AllByRecursion}
use Rattle.std.proofs.lemmas.Bool.{false≢true}
use Rattle.std.proofs.lemmas.List.{map-append}
use Rattle.std.proofs.lemmas.List.Elements.{filter-append}
use Rattle.std.proofs.lemmas.Option.{same_Some, none-some}
use Rattle.std.proofs.Math.Nat.{mul-le-mul_left, mul-le-mul_right}
use Rattle.base_rows.specs.Sortable.{same_sort_key, row_at, set_row, is_under, SortKeysAscend}
use Rattle.base_rows.proofs.SortableLaws.{same_sort_key_exact, row_at-set_row}
use Rattle.base_rows.proofs.RowLaws.{all-set_row, sort_key_row_at}
use Rattle.mud_base.specs.declared.addr.Addr.{Addr}
use Rattle.mud_base.specs.declared.packet.Direction.{Direction}
use Rattle.acl_model.specs.declared.binding.Binding.{Binding}
use Rattle.acl_model.specs.Policies.{UrlPolicy}
use Rattle.acl_model.specs.Keys.{key_of}
use Rattle.acl_model.specs.FirstMatch.{entries_of}
use Rattle.acl_model.specs.Defaults.{default_entry}
use Rattle.acl_model.specs.declared.ruling.DefaultRule.TheVariants.{Dns}
use Rattle.mud_base.specs.declared.packet.Direction.TheVariants.{From, To}
use Rattle.base_rows.specs.declared.edit.Edit.{Edit}
use Rattle.base_rows.specs.Edits.{edit, edit_sort_key}
use Rattle.acl_rows.specs.declared.row.Owner.{Owner}
use Rattle.acl_rows.specs.declared.row.Owner.TheVariants.{Url, Default}
use Rattle.acl_rows.specs.declared.row.Row.{Row}
use Rattle.acl_rows.specs.declared.row.RowKey.{RowKey}
use Rattle.acl_rows.specs.SortKeys.{side_sort_key, sort_key_at, row_sort_key, named_sort_key}
use Rattle.acl_rows.specs.View.{rows_of_side}
use Rattle.acl_rows.specs.ByAddress.{index_beside}
use Rattle.acl_buckets.proofs.Beside.{side_is, owner_split}
use Rattle.acl_rows.specs.Rows.{Slots, Holder, row, rows_of, member_keys, default_held, held_by, entry_at, expiry_at}
use Rattle.acl_rows.proofs.Coordinates.{AreSame, same_coordinates}
use Rattle.acl_rows.proofs.AtSortKeys.{row_at-rows_of, ascend-rows_of}
use Rattle.acl_changes.specs.Patch.{expiry_for, IsPatch}
use Rattle.acl_changes.specs.Touched.{row_key, key_expiry, same_expiry, edit_of, changed_edits, with_edit, with_edits}
use Rattle.acl_changes.specs.PolicyTouched.{new_touches, owner_rows, key_of_row, is_left, left_touches, policy_touches, IsSlotChange}
use Rattle.acl_changes.proofs.Untouched.{touches_at}
use Rattle.acl_changes.proofs.Patches.{all-row_at}
use Rattle.acl_changes.proofs.PolicyPatch.{new_by, policy_patch}
use Rattle.acl_changes.specs.Steps.{HolderFits, HolderKeys, HaveKeys, sort_key_steps}
use Rattle.acl_changes.specs.Fresh.{Fresh, fresh_of, row_with, expiry_kept, one_fresh, more_fresh, gone_edit, left_edits}
use Rattle.acl_changes.proofs.Groups.{all_kept, each_there}

module _ (slots : Slots) (bindings : List Binding) (new : Slots) where
  -- ---- Edits

  pub with_edits-append : (xs ys : List RowKey) (edits : List (Edit Row)) → with_edits slots bindings new bindings (xs ++ ys) edits ≡ with_edits slots bindings new bindings ys (with_edits slots bindings new bindings xs edits)
  unfolding with_edits
  with_edits-append [] ys edits = refl
  with_edits-append (x ∷ xs) ys edits = with_edits-append xs ys (with_edit slots bindings new bindings x edits)

  pub fresh_edits : (keys : List RowKey) (s : Fresh) → (more_fresh slots bindings new keys s).edits ≡ with_edits slots bindings new bindings keys s.edits
  unfolding more_fresh one_fresh with_edits
  fresh_edits [] s = refl
  fresh_edits (key ∷ keys) s = fresh_edits keys (one_fresh slots bindings new key s)

  -- ---- The rows that stay are those that stood and are asked for

  abbrev Asked : List Row → Type 0
  Asked rows = AllByRecursion (λ r. expiry_for new bindings r ≡ Some r.until) rows

  asked_one : (key : RowKey) (u : ℕ) → key_expiry new bindings key ≡ Some u → expiry_for new bindings (row key.owner key.side key.addr key.entry u) ≡ Some (row key.owner key.side key.addr key.entry u).until
  unfolding expiry_for key_expiry row
  asked_one key u is = is

  asked_by : (key : RowKey) (rows : List Row) → Asked rows → (o : Option ℕ) → key_expiry new bindings key ≡ o → Asked (row_with key o rows)
  unfolding row_with
  asked_by key rows asked None is = asked
  asked_by key rows asked (Some u) is = all-set_row row_sort_key (λ (r : Row). expiry_for new bindings r ≡ Some r.until) (row key.owner key.side key.addr key.entry u) rows (asked_one key u is) asked

  asked_kept : (key : RowKey) (rows : List Row) → Asked rows → (w : Option ℕ) → Asked (row_with key (expiry_kept w (key_expiry new bindings key)) rows)
  unfolding expiry_kept row_with
  asked_kept key rows asked None = asked
  asked_kept key rows asked (Some v) = asked_by key rows asked (key_expiry new bindings key) refl

  all_asked : (keys : List RowKey) (s : Fresh) → Asked s.rows → Asked (more_fresh slots bindings new keys s).rows
  unfolding more_fresh one_fresh
  all_asked [] s asked = asked
  all_asked (key ∷ keys) s asked = all_asked keys (one_fresh slots bindings new key s) (asked_kept key s.rows asked (key_expiry slots bindings key))

  module _ (p : List ℕ) where
    stays_cond : (r : Row) (o : Option Row) (b : Bool) → is_some o ≡ true → is_some (cond b (Some r) o) ≡ true
    stays_cond r o true there = refl
    stays_cond r o false there = there

    stays_by : (key : RowKey) (rows : List Row) (o : Option ℕ) → is_some (row_at row_sort_key p rows) ≡ true → is_some (row_at row_sort_key p (row_with key o rows)) ≡ true
    unfolding row_with
    stays_by key rows None there = there
    stays_by key rows (Some u) there =
        ap (λ (x : Option Row). is_some x) (row_at-set_row row_sort_key (row key.owner key.side key.addr key.entry u) rows p)
        ∙ stays_cond (row key.owner key.side key.addr key.entry u) (row_at row_sort_key p rows) (same_sort_key (row_sort_key (row key.owner key.side key.addr key.entry u)) p) there

    all_stay : (keys : List RowKey) (s : Fresh) → is_some (row_at row_sort_key p s.rows) ≡ true → is_some (row_at row_sort_key p (more_fresh slots bindings new keys s).rows) ≡ true
    unfolding more_fresh one_fresh
    all_stay [] s there = there
    all_stay (key ∷ keys) s there = all_stay keys (one_fresh slots bindings new key s) (stays_by key s.rows (expiry_kept (key_expiry slots bindings key) (key_expiry new bindings key)) there)

  module _ (owner : Owner) (side : Direction) (a : Addr) (n u v : ℕ) (asked : expiry_at new bindings owner side a n ≡ Some u) (stood : expiry_at slots bindings owner side a n ≡ Some v) where
    here_cond : (r : Row) (o : Option Row) (b : Bool) → b ≡ true → is_some (cond b (Some r) o) ≡ true
    here_cond r o true e = refl
    here_cond r o false e = absurd (false≢true e)

    keyed : (key : RowKey) (v : ℕ) → touches_at owner side a n key ≡ true → same_sort_key (row_sort_key (row key.owner key.side key.addr key.entry v)) (sort_key_at owner side a n) ≡ true
    unfolding row_sort_key row named_sort_key
    keyed key v at = at

    coordinates : (key : RowKey) → touches_at owner side a n key ≡ true → AreSame key.owner owner key.side side key.addr a key.entry n
    unfolding named_sort_key
    coordinates key at = same_coordinates key.owner owner key.side side key.addr a key.entry n (same_sort_key_exact (sort_key_at key.owner key.side key.addr key.entry) (sort_key_at owner side a n) at)

    asked_there : (key : RowKey) → touches_at owner side a n key ≡ true → key_expiry new bindings key ≡ Some u
    unfolding key_expiry
    asked_there key at =
        let same : AreSame key.owner owner key.side side key.addr a key.entry n = coordinates key at in
        (λ i. expiry_at new bindings (same.owner i) (same.side i) (same.addr i) (same.number i)) ∙ asked

    stood_there : (key : RowKey) → touches_at owner side a n key ≡ true → key_expiry slots bindings key ≡ Some v
    unfolding key_expiry
    stood_there key at =
        let same : AreSame key.owner owner key.side side key.addr a key.entry n = coordinates key at in
        (λ i. expiry_at slots bindings (same.owner i) (same.side i) (same.addr i) (same.number i)) ∙ stood

    put_row : (key : RowKey) (rows : List Row) → touches_at owner side a n key ≡ true → is_some (row_at row_sort_key (sort_key_at owner side a n) (row_with key (Some u) rows)) ≡ true
    unfolding row_with
    put_row key rows at =
        ap (λ (x : Option Row). is_some x) (row_at-set_row row_sort_key (row key.owner key.side key.addr key.entry u) rows (sort_key_at owner side a n))
        ∙ here_cond (row key.owner key.side key.addr key.entry u) (row_at row_sort_key (sort_key_at owner side a n) rows) (same_sort_key (row_sort_key (row key.owner key.side key.addr key.entry u)) (sort_key_at owner side a n)) (keyed key u at)

    put_kept : (key : RowKey) (rows : List Row) → touches_at owner side a n key ≡ true → is_some (row_at row_sort_key (sort_key_at owner side a n) (row_with key (expiry_kept (key_expiry slots bindings key) (key_expiry new bindings key)) rows)) ≡ true
    unfolding expiry_kept
    put_kept key rows at =
        (λ i. is_some (row_at row_sort_key (sort_key_at owner side a n) (row_with key (expiry_kept (stood_there key at i) (asked_there key at i)) rows)))
        ∙ put_row key rows at

    put_all_by : (key : RowKey) (keys : List RowKey) (s : Fresh) → (list_any (touches_at owner side a n) keys ≡ true → is_some (row_at row_sort_key (sort_key_at owner side a n) (more_fresh slots bindings new keys (one_fresh slots bindings new key s)).rows) ≡ true)
        → (b : Bool) → touches_at owner side a n key ≡ b → (b || list_any (touches_at owner side a n) keys) ≡ true → is_some (row_at row_sort_key (sort_key_at owner side a n) (more_fresh slots bindings new keys (one_fresh slots bindings new key s)).rows) ≡ true
    unfolding one_fresh
    put_all_by key keys s rest true at any = all_stay (sort_key_at owner side a n) keys (one_fresh slots bindings new key s) (put_kept key s.rows at)
    put_all_by key keys s rest false at any = rest any

    -- where an expiry was and is asked at a sort key that is touched, there is a row
    pub put_all : (keys : List RowKey) (s : Fresh) → list_any (touches_at owner side a n) keys ≡ true → is_some (row_at row_sort_key (sort_key_at owner side a n) (more_fresh slots bindings new keys s).rows) ≡ true
    unfolding more_fresh
    put_all [] s any = absurd (false≢true any)
    put_all (key ∷ keys) s any = put_all_by key keys s (put_all keys (one_fresh slots bindings new key s)) (touches_at owner side a n key) refl any

  module _ (owner : Owner) (held : Option UrlPolicy) (here : held_by new owner ≡ held) where
    abbrev all_fresh : Fresh
    all_fresh = more_fresh slots bindings new (new_touches bindings owner held) (fresh_of [] [])

    tells_by : (r : Row) → r.owner ≡ owner → expiry_for slots bindings r ≡ Some r.until → (o : Option Row) → row_at row_sort_key (row_sort_key r) all_fresh.rows ≡ o → (w : Option ℕ) → expiry_for new bindings r ≡ w → is_some o ≡ is_some w
    unfolding row_sort_key expiry_for
    tells_by r own was None is None end = refl
    tells_by r own was None is (Some u) end =
        let was' : expiry_at slots bindings owner r.side r.addr r.entry ≡ Some r.until = ap (λ (x : Owner). expiry_at slots bindings x r.side r.addr r.entry) (sym own) ∙ was in
        let end' : expiry_at new bindings owner r.side r.addr r.entry ≡ Some u = ap (λ (x : Owner). expiry_at new bindings x r.side r.addr r.entry) (sym own) ∙ end in
        let there = put_all owner r.side r.addr r.entry u r.until end' was' (new_touches bindings owner held) (fresh_of [] []) (new_by new bindings owner r.side r.addr r.entry u held here end') in
        absurd (false≢true (ap (λ (x : Option Row). is_some x) (sym is ∙ ap (λ (x : Owner). row_at row_sort_key (sort_key_at x r.side r.addr r.entry) all_fresh.rows) own) ∙ there))
    tells_by r own was (Some x) is None end =
        let asked : expiry_for new bindings x ≡ Some x.until = all-row_at row_sort_key (λ (y : Row). expiry_for new bindings y ≡ Some y.until) (row_sort_key r) all_fresh.rows x (all_asked (new_touches bindings owner held) (fresh_of [] []) tt) is in
        let same : AreSame x.owner r.owner x.side r.side x.addr r.addr x.entry r.entry = same_coordinates x.owner r.owner x.side r.side x.addr r.addr x.entry r.entry (sort_key_row_at row_sort_key (row_sort_key r) all_fresh.rows x is) in
        absurd (none-some x.until (sym end ∙ sym (λ i. expiry_at new bindings (same.owner i) (same.side i) (same.addr i) (same.number i)) ∙ asked))
    tells_by r own was (Some x) is (Some u) end = refl

    pub tells : (r : Row) → r.owner ≡ owner → expiry_for slots bindings r ≡ Some r.until → is_some (row_at row_sort_key (row_sort_key r) all_fresh.rows) ≡ is_some (expiry_for new bindings r)
    tells r own was = tells_by r own was (row_at row_sort_key (row_sort_key r) all_fresh.rows) refl (expiry_for new bindings r) refl

  -- ---- Old rows that aren't asked for any more

  -- what is known of an old row
  pub record IsOwn (fresh : List Row) (r : Row) : Type 0 where
    pub was : expiry_for slots bindings r ≡ Some r.until
    pub told : is_some (row_at row_sort_key (row_sort_key r) fresh) ≡ is_some (expiry_for new bindings r)

  abbrev kept : List Row
  kept = rows_of slots bindings

  row_goes : (r : Row) (found : Result ℕ ℕ) (edits : List (Edit Row)) → changed_edits (row_key r.owner r.side r.addr r.entry) found (Some r.until) None edits ≡ set_row (edit_sort_key row_sort_key) (edit r false found) edits
  unfolding changed_edits same_expiry edit_of row
  row_goes r found edits = refl

  goes : (fresh : List Row) (r : Row) (edits : List (Edit Row)) → IsOwn fresh r → expiry_for new bindings r ≡ None → with_edit slots bindings new bindings (key_of_row r) edits ≡ set_row (edit_sort_key row_sort_key) (gone_edit kept r) edits
  unfolding with_edit key_of_row named_sort_key key_expiry expiry_for row_sort_key
  goes fresh r edits is none =
      (λ j. changed_edits (row_key r.owner r.side r.addr r.entry) (index_beside r.owner r.side r.addr (row_sort_key r) kept) (is.was j) (none j) edits)
      ∙ row_goes r (index_beside r.owner r.side r.addr (row_sort_key r) kept) edits

  left_by : (fresh : List Row) (r : Row) (rs : List Row) (edits : List (Edit Row)) → IsOwn fresh r
      → ((es : List (Edit Row)) → left_edits kept fresh rs es ≡ with_edits slots bindings new bindings (map key_of_row (filter (is_left new bindings) rs)) es)
      → (o : Option ℕ) → expiry_for new bindings r ≡ o
      → left_edits kept fresh rs (cond (is_some o) edits (set_row (edit_sort_key row_sort_key) (gone_edit kept r) edits)) ≡ with_edits slots bindings new bindings (map key_of_row (cond (is_none o) (r ∷ filter (is_left new bindings) rs) (filter (is_left new bindings) rs))) edits
  unfolding with_edits
  left_by fresh r rs edits is rest None end = rest (set_row (edit_sort_key row_sort_key) (gone_edit kept r) edits) ∙ ap (with_edits slots bindings new bindings (map key_of_row (filter (is_left new bindings) rs))) (sym (goes fresh r edits is end))
  left_by fresh r rs edits is rest (Some u) end = rest edits

  pub left_same : (fresh : List Row) (own : List Row) (edits : List (Edit Row)) → AllByRecursion (IsOwn fresh) own → left_edits kept fresh own edits ≡ with_edits slots bindings new bindings (map key_of_row (filter (is_left new bindings) own)) edits
  unfolding left_edits with_edits is_left
  left_same fresh [] edits all = refl
  left_same fresh (r ∷ rs) edits all =
      ap (λ (b : Bool). left_edits kept fresh rs (cond b edits (set_row (edit_sort_key row_sort_key) (gone_edit kept r) edits))) all.0.told
      ∙ left_by fresh r rs edits all.0 (λ es. left_same fresh rs es all.1) (expiry_for new bindings r) refl

was_by : (r : Row) (o : Option ℕ) → option_map (row r.owner r.side r.addr r.entry) o ≡ Some r → o ≡ Some r.until
unfolding row
was_by r None is = absurd (none-some r is)
was_by r (Some u) is = ap Some (ap (λ (x : Row). x.until) (same_Some (row r.owner r.side r.addr r.entry u) r is))

-- an old row has the expiry that was asked for
pub expiry_was : (slots : Slots) (bindings : List Binding) (r : Row) → row_at row_sort_key (row_sort_key r) (rows_of slots bindings) ≡ Some r → expiry_for slots bindings r ≡ Some r.until
unfolding row_sort_key expiry_for
expiry_was slots bindings r at = was_by r (expiry_at slots bindings r.owner r.side r.addr r.entry) (sym (row_at-rows_of slots bindings r.owner r.side r.addr r.entry) ∙ at)

-- ---- All edits

module _ (slots : Slots) (bindings : List Binding) (new : Slots) (i : ℕ) (held : Option UrlPolicy) (change : IsSlotChange slots new i held) where
  abbrev old_rows : Direction → List Row
  old_rows side = rows_of_side (Url i) side (rows_of slots bindings)

  -- what is known of each row of the owner and a side
  known : (s : Fresh) → s ≡ more_fresh slots bindings new (new_touches bindings (Url i) held) (fresh_of [] []) → (side : Direction) → AllByRecursion (IsOwn slots bindings new s.rows) (old_rows side)
  unfolding rows_of_side
  known s s_is side =
      all_kept (is_under row_sort_key (side_sort_key (Url i) side)) (λ r. row_at row_sort_key (row_sort_key r) (rows_of slots bindings) ≡ Some r) (IsOwn slots bindings new s.rows)
      (λ r under at. record {
        was = expiry_was slots bindings r at;
        told = ap (λ (x : Fresh). is_some (row_at row_sort_key (row_sort_key r) x.rows)) s_is ∙ tells slots bindings new (Url i) held change.here r (side_is (Url i) side r under).owner (expiry_was slots bindings r at);
      })
      (rows_of slots bindings) (each_there row_sort_key (rows_of slots bindings) (ascend-rows_of slots bindings))

  abbrev left_of : List Row → List RowKey
  left_of rows = map key_of_row (filter (is_left new bindings) rows)

  left_both : left_touches new bindings (rows_of slots bindings) (Url i) ≡ left_of (old_rows From) ++ left_of (old_rows To)
  unfolding left_touches owner_rows
  left_both =
      ap left_of (owner_split (Url i) (rows_of slots bindings) (ascend-rows_of slots bindings))
      ∙ ap (map key_of_row) (filter-append (is_left new bindings) (old_rows From) (old_rows To))
      ∙ map-append key_of_row (filter (is_left new bindings) (old_rows From)) (filter (is_left new bindings) (old_rows To))

  pub slot_patch : (s : Fresh) (edits : List (Edit Row)) → s ≡ more_fresh slots bindings new (new_touches bindings (Url i) held) (fresh_of [] [])
      → edits ≡ left_edits (rows_of slots bindings) s.rows (old_rows To) (left_edits (rows_of slots bindings) s.rows (old_rows From) s.edits) → IsPatch slots bindings new bindings edits
  unfolding policy_touches
  slot_patch s edits s_is made =
      let fresh : s.edits ≡ with_edits slots bindings new bindings (new_touches bindings (Url i) held) [] = ap (λ (x : Fresh). x.edits) s_is ∙ fresh_edits slots bindings new (new_touches bindings (Url i) held) (fresh_of [] []) in
      subst (IsPatch slots bindings new bindings)
      (sym (made
      ∙ left_same slots bindings new s.rows (old_rows To) (left_edits (rows_of slots bindings) s.rows (old_rows From) s.edits) (known s s_is To)
      ∙ ap (with_edits slots bindings new bindings (left_of (old_rows To))) (left_same slots bindings new s.rows (old_rows From) s.edits (known s s_is From))
      ∙ sym (with_edits-append slots bindings new (left_of (old_rows From)) (left_of (old_rows To)) s.edits)
      ∙ (λ j. with_edits slots bindings new bindings (sym left_both j) (fresh j))
      ∙ sym (with_edits-append slots bindings new (new_touches bindings (Url i) held) (left_touches new bindings (rows_of slots bindings) (Url i)) [])))
      (policy_patch slots new bindings i held change)

-- the rows of an owner are as many as those of its two sides
pub own_length : (o : Owner) (rows : List Row) → SortKeysAscend row_sort_key rows → length (owner_rows o rows) ≡ length (rows_of_side o From rows) + length (rows_of_side o To rows)
unfolding owner_rows
own_length o rows up = ap length (owner_split o rows up) ∙ length-append (rows_of_side o From rows) (rows_of_side o To rows)

-- ---- Steps of a policy

pub policy_fits : (s b k : ℕ) (h : Holder) → HolderKeys s h → HolderFits h b k (s * b + k)
policy_fits s b k h keys side n entry stands =
    let few : length (member_keys h.1.url entry) ≤ s = keys side n entry stands in
    let more : length (member_keys h.1.url entry) * b ≤ s * b = mul-le-mul_right b few in
    omega arith

default_key : (s : ℕ) (slots : Slots) → HaveKeys s slots → 1 ≤ s
unfolding held_by default_held entry_at member_keys default_entry entries_of key_of
default_key s slots keys = keys Default default_held (λ i. Some default_held) From 1 (default_entry Dns From) (λ i. Some (default_entry Dns From))

pub policy_cost : (slots : Slots) (start first last d e x s b k : ℕ) → HaveKeys s slots → first ≤ start + e * b + x * (s * b + k + 1) → last ≤ first + d + 2 * k → last ≤ start + d + (e + x + 1) * sort_key_steps s b k
policy_cost slots start first last d e x s b k keys fresh own =
    let one : 1 ≤ s = default_key s slots keys in
    let more : 1 * (b + k + 2) ≤ s * (b + k + 2) = mul-le-mul_right (b + k + 2) one in
    let entry : b ≤ sort_key_steps s b k = omega arith in
    let one_key : s * b + k + 1 ≤ sort_key_steps s b k = omega arith in
    let twice : 2 * k ≤ sort_key_steps s b k = omega (arith, more) in
    let entries : e * b ≤ e * sort_key_steps s b k = mul-le-mul_left e entry in
    let all_keys : x * (s * b + k + 1) ≤ x * sort_key_steps s b k = mul-le-mul_left x one_key in
    sum start first last d e x (s * b + k + 1) b k (sort_key_steps s b k) twice entries all_keys fresh own
  where
    sum : (start first last d e x v b k u : ℕ) → 2 * k ≤ u → e * b ≤ e * u → x * v ≤ x * u → first ≤ start + e * b + x * v → last ≤ first + d + 2 * k → last ≤ start + d + (e + x + 1) * u
    sum start first last d e x v b k u twice entries all_keys fresh own = omega arith

pub no_fresh : (slots : Slots) (bindings : List Binding) (new : Slots) (owner : Owner) (held : Option UrlPolicy) → held ≡ None → fresh_of [] [] ≡ more_fresh slots bindings new (new_touches bindings owner held) (fresh_of [] [])
unfolding more_fresh new_touches
no_fresh slots bindings new owner held none = (λ i. more_fresh slots bindings new (new_touches bindings owner (sym none i)) (fresh_of [] []))
