-- A new lease changes two rows at most, and so the bindings.
use Rattle.std.proofs.Common.{◌≡◌, ℕ, Bool, true, false, cond, not, ◌||◌, List, [], ◌∷◌, map, Option, Some, None, refl, sym, ap, subst, ◌∙◌}
use Rattle.std.specs.List.{list_any, filter}
use Rattle.std.specs.Option.{option_map}
use Rattle.std.proofs.lemmas.Bool.{false≢true}
use Rattle.std.proofs.lemmas.List.{map-append}
use Rattle.std.proofs.lemmas.Option.{none-some}
use Rattle.mud_base.specs.Addresses.{same_addr}
use Rattle.mud_base.specs.declared.addr.Addr.{Addr}
use Rattle.base_rows.specs.Sortable.{sort_key_cmp, same_sort_key, SortKeysAbove, SortKeysAscend, row_at, set_row, set_rows}
use Rattle.base_rows.proofs.SortableLaws.{same_sort_key_exact, same_sort_key_itself, row_at_above, row_at-set_row, ascend-set_rows, set_rows-push}
use Rattle.base_rows.proofs.RowLaws.{same_rows, ascend-filter, ascend-map, sort_key_row_at}
use Rattle.table_model.specs.declared.thing.Thing.{Thing}
use Rattle.table_model.specs.Expiries.{Expiries, has_address, expiry_of, without_address}
use Rattle.table_model.specs.Things.{mac_of, holds, released, with_leases, set_thing, without_lease}
use Rattle.base_rows.specs.Changes.{are_apart, changed, sort_keys_of, is_plain}
use Rattle.table_model.specs.ThingChanges.{released_holders, leased, new_lease_change, end_change}
use Rattle.base_rows.proofs.ListTests.{left_of, right_of, any_by, any-map}
use Rattle.base_rows.proofs.RowSets.{Passing, found_passing}
use Rattle.table_model.proofs.RowSets.{row_at-map}
use Rattle.base_rows.proofs.ListTests.{apart-append}
use Rattle.table_laws.proofs.Apart.{apart-ascend}
use Rattle.base_rows.proofs.ListTests.{or_first, or_second, not_false}
use Rattle.base_rows.proofs.ChangeLaws.{differ_turned}
use Rattle.table_model.proofs.AloneLaws.{keeps_mac}

pub or_else : {A : Type 0} → Option A → Option A → Option A
or_else None o = o
or_else (Some x) o = Some x

pub keep_if : {A : Type 0} → (A → Bool) → Option A → Option A
keep_if t None = None
keep_if t (Some x) = cond (t x) (Some x) None

module _ {R : Type 0} (sort_key : R → List ℕ) where
  -- ---- The rows behind several that are put in, of which no two are of one sort key

  none_at : (p : List ℕ) (rows : List R) → list_any (same_sort_key p) (map sort_key rows) ≡ false → row_at sort_key p rows ≡ None
  none_at p [] e = refl
  none_at p (x ∷ xs) e =
      ap (λ b. cond b (Some x) (row_at sort_key p xs)) (differ_turned p (sort_key x) (or_first (same_sort_key p (sort_key x)) (list_any (same_sort_key p) (map sort_key xs)) e))
      ∙ none_at p xs (or_second (same_sort_key p (sort_key x)) (list_any (same_sort_key p) (map sort_key xs)) e)

  row_at_more : (x : R) (p : List ℕ) (xs : List R) (o : Option R) → list_any (same_sort_key (sort_key x)) (map sort_key xs) ≡ false → (b : Bool) → same_sort_key (sort_key x) p ≡ b → or_else (row_at sort_key p xs) (cond b (Some x) o) ≡ or_else (cond b (Some x) (row_at sort_key p xs)) o
  unfolding or_else
  row_at_more x p xs o none true is = ap (λ r. or_else r (Some x)) (subst (λ q. row_at sort_key q xs ≡ None) (same_sort_key_exact (sort_key x) p is) (none_at (sort_key x) xs none))
  row_at_more x p xs o none false is = refl

  pub row_at-apart_rows : (new rows : List R) (p : List ℕ) → are_apart same_sort_key (map sort_key new) ≡ true → row_at sort_key p (set_rows sort_key new rows) ≡ or_else (row_at sort_key p new) (row_at sort_key p rows)
  unfolding or_else
  row_at-apart_rows [] rows p once = refl
  row_at-apart_rows (x ∷ xs) rows p once =
      row_at-apart_rows xs (set_row sort_key x rows) p (right_of (not (list_any (same_sort_key (sort_key x)) (map sort_key xs))) (are_apart same_sort_key (map sort_key xs)) once)
      ∙ ap (or_else (row_at sort_key p xs)) (row_at-set_row sort_key x rows p)
      ∙ row_at_more x p xs (row_at sort_key p rows) (not_false (list_any (same_sort_key (sort_key x)) (map sort_key xs)) (left_of (not (list_any (same_sort_key (sort_key x)) (map sort_key xs))) (are_apart same_sort_key (map sort_key xs)) once)) (same_sort_key (sort_key x) p) refl

  -- the row of a sort key among those that pass a test
  filter_more : (t : R → Bool) (p : List ℕ) (x : R) (xs : List R) → SortKeysAbove sort_key (sort_key x) xs → row_at sort_key p (filter t xs) ≡ keep_if t (row_at sort_key p xs) → (b : Bool) → t x ≡ b → (c : Bool) → same_sort_key (sort_key x) p ≡ c → row_at sort_key p (cond b (x ∷ filter t xs) (filter t xs)) ≡ keep_if t (cond c (Some x) (row_at sort_key p xs))
  unfolding keep_if
  filter_more t p x xs above rest true is true at = ap (λ b. cond b (Some x) (row_at sort_key p (filter t xs))) at ∙ sym (ap (λ b. cond b (Some x) None) is)
  filter_more t p x xs above rest true is false at = ap (λ b. cond b (Some x) (row_at sort_key p (filter t xs))) at ∙ rest
  filter_more t p x xs above rest false is true at = rest ∙ ap (keep_if t) (subst (λ q. row_at sort_key q xs ≡ None) (same_sort_key_exact (sort_key x) p at) (row_at_above sort_key (sort_key x) xs above)) ∙ sym (ap (λ b. cond b (Some x) None) is)
  filter_more t p x xs above rest false is false at = rest

  pub row_at-filter : (t : R → Bool) (p : List ℕ) (rows : List R) → SortKeysAscend sort_key rows → row_at sort_key p (filter t rows) ≡ keep_if t (row_at sort_key p rows)
  unfolding keep_if
  row_at-filter t p [] up = refl
  row_at-filter t p (x ∷ xs) up = filter_more t p x xs up.0 (row_at-filter t p xs up.1) (t x) refl (same_sort_key (sort_key x) p) refl

  -- ---- Rows that pass a test are changed, and the others would stay as they are

  changed_by : (f : R → R) (t : R → Bool) → ((x : R) → t x ≡ false → f x ≡ x) → (o : Option R) → or_else (option_map f (keep_if t o)) o ≡ option_map f o
  unfolding or_else keep_if
  changed_by f t stays None = refl
  changed_by f t stays (Some x) = by_test (t x) refl
    where
      by_test : (b : Bool) → t x ≡ b → or_else (option_map f (cond b (Some x) None)) (Some x) ≡ Some (f x)
      by_test true is = refl
      by_test false is = ap Some (sym (stays x is))

  pub set_rows-changed : (f : R → R) (t : R → Bool) → ((x : R) → sort_key (f x) ≡ sort_key x) → ((x : R) → t x ≡ false → f x ≡ x) → (rows : List R) → SortKeysAscend sort_key rows → set_rows sort_key (map f (filter t rows)) rows ≡ map f rows
  set_rows-changed f t kept stays rows up =
      same_rows sort_key (set_rows sort_key (map f (filter t rows)) rows) (map f rows) (ascend-set_rows sort_key (map f (filter t rows)) rows up) (image_up rows up) (λ p.
      row_at-apart_rows (map f (filter t rows)) rows p (apart-ascend sort_key (map f (filter t rows)) (image_up (filter t rows) (ascend-filter sort_key t rows up)))
      ∙ ap (λ o. or_else o (row_at sort_key p rows)) (row_at-map sort_key f kept p (filter t rows) ∙ ap (option_map f) (row_at-filter t p rows up))
      ∙ changed_by f t stays (row_at sort_key p rows)
      ∙ sym (row_at-map sort_key f kept p rows))
    where
      image_up : (rows : List R) → SortKeysAscend sort_key rows → SortKeysAscend sort_key (map f rows)
      image_up rows up = ascend-map sort_key sort_key f (λ x y i. sort_key_cmp (kept x i) (kept y i)) rows up

-- ---- An address leaves the Thing that has it

stays_all : {A : Type 0} (p : A → Bool) (xs : List A) → list_any p xs ≡ false → filter (λ x. not (p x)) xs ≡ xs
stays_all p [] e = refl
stays_all p (x ∷ xs) e = ap (λ b. cond (not b) (x ∷ filter (λ y. not (p y)) xs) (filter (λ y. not (p y)) xs)) (or_first (p x) (list_any p xs) e) ∙ ap (λ ys. x ∷ ys) (stays_all p xs (or_second (p x) (list_any p xs) e))

stays_itself : (a : Addr) (t : Thing) → holds a t ≡ false → released a t ≡ t
unfolding holds has_address released with_leases without_address
stays_itself a t e = λ i. record t { leases = stays_all (λ r. same_addr r.0 a) t.leases e i }

module _ (a : Addr) (things : List Thing) (up : SortKeysAscend mac_of things) where
  set_rows-released : set_rows mac_of (released_holders a things) things ≡ without_lease a things
  unfolding released_holders without_lease
  set_rows-released = set_rows-changed mac_of (released a) (holds a) (keeps_mac a) (stays_itself a) things up

  holders_up : SortKeysAscend mac_of (released_holders a things)
  unfolding released_holders
  holders_up = ascend-map mac_of mac_of (released a) (λ x y i. sort_key_cmp (keeps_mac a x i) (keeps_mac a y i)) (filter (holds a) things) (ascend-filter mac_of (holds a) things up)

  pub end_changed : changed mac_of (end_change a things) things ≡ without_lease a things
  unfolding changed end_change
  end_changed = set_rows-released

  -- where no Thing has the address, nothing changes
  none_leaves : (ts : List Thing) → list_any (holds a) ts ≡ false → map (released a) ts ≡ ts
  none_leaves [] e = refl
  none_leaves (t ∷ ts) e = λ i. stays_itself a t (or_first (holds a t) (list_any (holds a) ts) e) i ∷ none_leaves ts (or_second (holds a t) (list_any (holds a) ts) e) i

  pub end_unchanged : list_any (holds a) things ≡ false → changed mac_of (end_change a things) things ≡ things
  unfolding without_lease
  end_unchanged e = end_changed ∙ none_leaves things e

  pub end_plain : is_plain mac_of (end_change a things) ≡ true
  unfolding is_plain sort_keys_of end_change
  end_plain = apart-ascend mac_of (released_holders a things) holders_up

  pub new_lease_changed : (until now : ℕ) (thing : Thing) → changed mac_of (new_lease_change a until now things thing) things ≡ set_thing (leased a until now thing) (without_lease a things)
  unfolding changed new_lease_change set_thing
  new_lease_changed until now thing = set_rows-push mac_of (released_holders a things) (leased a until now thing) things ∙ ap (set_row mac_of (leased a until now thing)) set_rows-released

  -- ---- The Thing that gets the address isn't one that has it

  none_has : (rows : Expiries) → expiry_of a rows ≡ None → has_address a rows ≡ false
  unfolding expiry_of has_address
  none_has [] e = refl
  none_has (r ∷ rows) e = by_test (same_addr r.0 a) refl (none_has rows)
    where
      by_test : (b : Bool) → same_addr r.0 a ≡ b → (expiry_of a rows ≡ None → list_any (λ s. same_addr s.0 a) rows ≡ false) → (same_addr r.0 a || list_any (λ s. same_addr s.0 a) rows) ≡ false
      by_test true is rest = absurd (none-some r.1 (sym (sym (ap (λ b. cond b (Some r.1) (expiry_of a rows)) is) ∙ e)))
      by_test false is rest = ap (λ b. b || list_any (λ s. same_addr s.0 a) rows) is ∙ rest (sym (ap (λ b. cond b (Some r.1) (expiry_of a rows)) is) ∙ e)

  holder_among : (m : List ℕ) → list_any (same_sort_key m) (map mac_of (released_holders a things)) ≡ true → list_any (λ t. same_sort_key m (mac_of t)) (filter (holds a) things) ≡ true
  unfolding released_holders mac_of released with_leases
  holder_among m e = sym (any-map (λ t. same_sort_key m (mac_of t)) (released a) (filter (holds a) things)) ∙ sym (any-map (same_sort_key m) mac_of (map (released a) (filter (holds a) things))) ∙ e

  no_holder : (thing : Thing) → row_at mac_of (mac_of thing) things ≡ Some thing → holds a thing ≡ false → list_any (same_sort_key (mac_of thing)) (map mac_of (released_holders a things)) ≡ true → ⊥
  unfolding keep_if
  no_holder thing there none found =
      let r : Passing mac_of (λ t. same_sort_key (mac_of thing) (mac_of t)) (filter (holds a) things) = found_passing mac_of (λ t. same_sort_key (mac_of thing) (mac_of t)) (filter (holds a) things) (ascend-filter mac_of (holds a) things up) (holder_among (mac_of thing) found) in
      let at : r.at ≡ mac_of thing = sym (sort_key_row_at mac_of r.at (filter (holds a) things) r.row r.there) ∙ sym (same_sort_key_exact (mac_of thing) (mac_of r.row) r.passes) in
      none-some r.row (sym (ap (λ b. cond b (Some thing) None) none) ∙ sym (ap (keep_if (holds a)) there) ∙ sym (row_at-filter mac_of (holds a) (mac_of thing) things up) ∙ subst (λ p. row_at mac_of p (filter (holds a) things) ≡ Some r.row) at r.there)

  not_held : (thing : Thing) → expiry_of a thing.leases ≡ None → holds a thing ≡ false
  unfolding holds
  not_held thing e = none_has thing.leases e

  last_one : (until now : ℕ) (thing : Thing) (p : List ℕ) → list_any (same_sort_key p) (mac_of (leased a until now thing) ∷ []) ≡ true → p ≡ mac_of thing
  unfolding mac_of leased with_leases
  last_one until now thing p e = any_by (same_sort_key p) (mac_of (leased a until now thing)) [] (same_sort_key_exact p (mac_of (leased a until now thing))) (λ f. absurd (false≢true f)) e

  pub new_lease_plain : (until now : ℕ) (thing : Thing) → row_at mac_of (mac_of thing) things ≡ Some thing → expiry_of a thing.leases ≡ None → is_plain mac_of (new_lease_change a until now things thing) ≡ true
  unfolding is_plain sort_keys_of new_lease_change
  new_lease_plain until now thing there none =
      ap (are_apart same_sort_key) (map-append mac_of (released_holders a things) (leased a until now thing ∷ []))
      ∙ apart-append same_sort_key same_sort_key_itself (map mac_of (released_holders a things)) (mac_of (leased a until now thing) ∷ [])
      (apart-ascend mac_of (released_holders a things) holders_up) refl
      (λ p here last. no_holder thing there (not_held thing none) (subst (λ q. list_any (same_sort_key q) (map mac_of (released_holders a things)) ≡ true) (last_one until now thing p last) here))
