-- A store that has the bindings of the tables has those of the tables behind each change.
use Rattle.std.proofs.Common.{◌≡◌, ℕ, Bool, true, false, cond, not, ◌||◌, List, [], ◌∷◌, map, Option, Some, None, refl, sym, ap, subst, ◌∙◌}
use Rattle.std.specs.List.{list_any}
use Rattle.std.proofs.lemmas.Bool.{false≢true}
use Rattle.std.proofs.lemmas.Option.{same_Some, none-some}
use Rattle.base_rows.specs.Sortable.{same_sort_key, SortKeysAscend, row_at, set_row, set_rows, without_row}
use Rattle.base_rows.proofs.SortableLaws.{same_sort_key_exact, row_at-set_row_same, row_at-without_row, ascend-without_row, ascend-set_rows}
use Rattle.base_rows.proofs.RowLaws.{sort_key_row_at}
use Rattle.acl_model.specs.declared.binding.Binding.{Binding}
use Rattle.base_rows.specs.Changes.{are_apart}
use Rattle.acl_model.specs.SortKeys.{binding_sort_key}
use Rattle.acl_model.specs.Changes.{same_spot, same_binding, has_binding, IsBindingChange, without_bindings, replaced, HaveSame}
use Rattle.base_rows.proofs.ListTests.{both_ways, left_of, right_of, both, is_not, any_first, any_later, any_by, any_more, any-map}
use Rattle.base_rows.proofs.RowSets.{Passing, found_passing, passing_found}
use Rattle.base_rows.proofs.ListTests.{apart-map}
use Rattle.acl_model.proofs.SortKeyLaws.{binding_sort_key_exact, ascend-without_bindings}
use Rattle.acl_model.proofs.BindingLaws.{same_spot_itself, spot_of_same, spot_shared, same_binding_exact, same_binding_itself}
use Rattle.table_laws.proofs.Differences.{spot_among}
use Rattle.base_rows.proofs.ListTests.{not_false}
use Rattle.base_rows.proofs.ChangeLaws.{same_sort_key_turned, row_at-set_rows_other}

-- of two that have a key and an address in common, one list without such two has but one
pub same_among : (b c : Binding) (xs : List Binding) → are_apart same_spot xs ≡ true → has_binding b xs ≡ true → has_binding c xs ≡ true → same_spot b c ≡ true → b ≡ c
unfolding has_binding
same_among b c [] apart of_b of_c spot = absurd (false≢true of_b)
same_among b c (x ∷ xs) apart of_b of_c spot =
    let alone : list_any (same_spot x) xs ≡ true → ⊥ = is_not (list_any (same_spot x) xs) (left_of (not (list_any (same_spot x) xs)) (are_apart same_spot xs) apart) in
    any_by (same_binding b) x xs
    (λ b_is. any_by (same_binding c) x xs
    (λ c_is. same_binding_exact b x b_is ∙ sym (same_binding_exact c x c_is))
    (λ c_in. absurd (alone (any_more (same_spot c) (same_spot x) xs (λ y. near b c x y (spot_of_same b x b_is) spot) (spot_among c xs c_in)))) of_c)
    (λ b_in. any_by (same_binding c) x xs
    (λ c_is. absurd (alone (any_more (same_spot b) (same_spot x) xs (λ y. near c b x y (spot_of_same c x c_is) (spot_shared b c b spot (same_spot_itself b))) (spot_among b xs b_in))))
    (λ c_in. same_among b c xs (right_of (not (list_any (same_spot x) xs)) (are_apart same_spot xs) apart) b_in c_in spot) of_c)
    of_b
  where
    -- x is of b's, b of c's, y of c's
    near : (b c x y : Binding) → same_spot b x ≡ true → same_spot b c ≡ true → same_spot c y ≡ true → same_spot x y ≡ true
    near b c x y b_x b_c c_y = spot_shared c x y (spot_shared b c x b_c b_x) c_y

-- ---- What a store has

same_at : (b c : Binding) → same_spot b c ≡ true → binding_sort_key b ≡ binding_sort_key c
same_at b c e = same_sort_key_exact (binding_sort_key b) (binding_sort_key c) (binding_sort_key_exact b c ∙ e)

has_at : (b : Binding) (rows : List Binding) → SortKeysAscend binding_sort_key rows → has_binding b rows ≡ true → row_at binding_sort_key (binding_sort_key b) rows ≡ Some b
unfolding has_binding
has_at b rows up e =
    let r : Passing binding_sort_key (same_binding b) rows = found_passing binding_sort_key (same_binding b) rows up e in
    let is : b ≡ r.row = same_binding_exact b r.row r.passes in
    subst (λ c. row_at binding_sort_key (binding_sort_key c) rows ≡ Some c) (sym is) (subst (λ p. row_at binding_sort_key p rows ≡ Some r.row) (sym (sort_key_row_at binding_sort_key r.at rows r.row r.there)) r.there)

at_has : (b : Binding) (rows : List Binding) → row_at binding_sort_key (binding_sort_key b) rows ≡ Some b → has_binding b rows ≡ true
unfolding has_binding
at_has b rows e = passing_found binding_sort_key (same_binding b) rows (binding_sort_key b) b e (same_binding_itself b)

-- ---- What is put in, and taken away

put_found : (new rows : List Binding) (c : Binding) → are_apart same_sort_key (map binding_sort_key new) ≡ true → has_binding c new ≡ true → row_at binding_sort_key (binding_sort_key c) (set_rows binding_sort_key new rows) ≡ Some c
unfolding has_binding
put_found [] rows c once e = absurd (false≢true e)
put_found (x ∷ xs) rows c once e = any_by (same_binding c) x xs
    (λ here. subst (λ y. row_at binding_sort_key (binding_sort_key y) (set_rows binding_sort_key xs (set_row binding_sort_key x rows)) ≡ Some y) (sym (same_binding_exact c x here))
    (row_at-set_rows_other binding_sort_key xs (set_row binding_sort_key x rows) (binding_sort_key x) (not_false (list_any (same_sort_key (binding_sort_key x)) (map binding_sort_key xs)) (left_of (not (list_any (same_sort_key (binding_sort_key x)) (map binding_sort_key xs))) (are_apart same_sort_key (map binding_sort_key xs)) once)) ∙ row_at-set_row_same binding_sort_key x rows))
    (put_found xs (set_row binding_sort_key x rows) c (right_of (not (list_any (same_sort_key (binding_sort_key x)) (map binding_sort_key xs))) (are_apart same_sort_key (map binding_sort_key xs)) once)) e

without_at : (p : List ℕ) (gone rows : List Binding) → SortKeysAscend binding_sort_key rows → row_at binding_sort_key p (without_bindings gone rows) ≡ cond (list_any (same_sort_key p) (map binding_sort_key gone)) None (row_at binding_sort_key p rows)
unfolding without_bindings
without_at p [] rows up = refl
without_at p (b ∷ gone) rows up =
    without_at p gone (without_row binding_sort_key (binding_sort_key b) rows) (ascend-without_row binding_sort_key (binding_sort_key b) rows up)
    ∙ ap (cond (list_any (same_sort_key p) (map binding_sort_key gone)) None) (row_at-without_row binding_sort_key (binding_sort_key b) rows p up ∙ ap (λ t. cond t None (row_at binding_sort_key p rows)) (same_sort_key_turned (binding_sort_key b) p))
    ∙ either (same_sort_key p (binding_sort_key b)) (list_any (same_sort_key p) (map binding_sort_key gone)) (row_at binding_sort_key p rows)
  where
    either : (b c : Bool) (o : Option Binding) → cond c None (cond b None o) ≡ cond (b || c) None o
    either true true o = refl
    either true false o = refl
    either false true o = refl
    either false false o = refl

-- ---- The change is that of the store

module _ (store before after gone come : List Binding) (up : SortKeysAscend binding_sort_key store) (same : HaveSame store before) (one : are_apart same_spot before ≡ true) (one' : are_apart same_spot after ≡ true) (change : IsBindingChange before after gone come) where
  abbrev store' : List Binding
  store' = set_rows binding_sort_key come (without_bindings gone store)

  up' : SortKeysAscend binding_sort_key store'
  up' = ascend-set_rows binding_sort_key come (without_bindings gone store) (ascend-without_bindings gone store up)

  come_sort_keys : are_apart same_sort_key (map binding_sort_key come) ≡ true
  come_sort_keys = apart-map same_sort_key same_spot binding_sort_key (λ x y e. sym (binding_sort_key_exact x y) ∙ e) come change.come_once

  -- one of a list has its sort key
  pub record AtSortKey (b : Binding) (xs : List Binding) : Type 0 where
    pub it : Binding
    pub among : has_binding it xs ≡ true
    pub spot : same_spot b it ≡ true

  found_sort_key : (b : Binding) (xs : List Binding) → list_any (same_sort_key (binding_sort_key b)) (map binding_sort_key xs) ≡ true → AtSortKey b xs
  unfolding has_binding
  found_sort_key b [] e = absurd (false≢true e)
  found_sort_key b (x ∷ xs) e = any_by (same_sort_key (binding_sort_key b)) (binding_sort_key x) (map binding_sort_key xs)
      (λ here. record { it = x; among = any_first (same_binding x) x xs (same_binding_itself x); spot = sym (binding_sort_key_exact b x) ∙ here })
      (λ later. let r : AtSortKey b xs = found_sort_key b xs later in record { it = r.it; among = any_later (same_binding r.it) x xs r.among; spot = r.spot })
      e

  sort_key_among : (b : Binding) (xs : List Binding) → has_binding b xs ≡ true → list_any (same_sort_key (binding_sort_key b)) (map binding_sort_key xs) ≡ true
  sort_key_among b xs e = any-map (same_sort_key (binding_sort_key b)) binding_sort_key xs ∙ any_more (same_spot b) (λ x. same_sort_key (binding_sort_key b) (binding_sort_key x)) xs (λ x h. binding_sort_key_exact b x ∙ h) (spot_among b xs e)

  -- one that comes is there afterwards, and one that goes was there
  came_is : (b : Binding) → has_binding b come ≡ true → has_binding b after ≡ true
  came_is b e = left_of (has_binding b after) (not (has_binding b before)) (sym (change.came b) ∙ e)

  went_was : (b : Binding) → has_binding b gone ≡ true → has_binding b before ≡ true
  went_was b e = left_of (has_binding b before) (not (has_binding b after)) (sym (change.went b) ∙ e)

  went_isn't : (b : Binding) → has_binding b gone ≡ true → has_binding b after ≡ true → ⊥
  went_isn't b e = is_not (has_binding b after) (right_of (has_binding b before) (not (has_binding b after)) (sym (change.went b) ∙ e))

  -- elsewhere the store stays
  stays_at : (b : Binding) → list_any (same_sort_key (binding_sort_key b)) (map binding_sort_key come) ≡ false → row_at binding_sort_key (binding_sort_key b) store' ≡ cond (list_any (same_sort_key (binding_sort_key b)) (map binding_sort_key gone)) None (row_at binding_sort_key (binding_sort_key b) store)
  stays_at b other = row_at-set_rows_other binding_sort_key come (without_bindings gone store) (binding_sort_key b) other ∙ without_at (binding_sort_key b) gone store up

  kept_there : (b : Binding) → has_binding b store' ≡ true → has_binding b after ≡ true
  kept_there b e = by_come (list_any (same_sort_key (binding_sort_key b)) (map binding_sort_key come)) refl (has_at b store' up' e)
    where
      -- it was in the store and didn't go
      stayed : row_at binding_sort_key (binding_sort_key b) store ≡ Some b → (list_any (same_sort_key (binding_sort_key b)) (map binding_sort_key gone) ≡ true → ⊥) → (t : Bool) → has_binding b after ≡ t → has_binding b after ≡ true
      stayed there stays true is = is
      stayed there stays false is = absurd (stays (sort_key_among b gone (change.went b ∙ both (has_binding b before) (not (has_binding b after)) (sym (same b) ∙ at_has b store there) (ap not is))))

      by_gone : (t : Bool) → list_any (same_sort_key (binding_sort_key b)) (map binding_sort_key gone) ≡ t → cond t None (row_at binding_sort_key (binding_sort_key b) store) ≡ Some b → has_binding b after ≡ true
      by_gone true is there = absurd (none-some b there)
      by_gone false is there = stayed there (λ e. false≢true (sym is ∙ e)) (has_binding b after) refl

      by_come : (t : Bool) → list_any (same_sort_key (binding_sort_key b)) (map binding_sort_key come) ≡ t → row_at binding_sort_key (binding_sort_key b) store' ≡ Some b → has_binding b after ≡ true
      by_come true is there =
          let r : AtSortKey b come = found_sort_key b come is in
          let same_one : r.it ≡ b = same_Some r.it b (sym (subst (λ p. row_at binding_sort_key p store' ≡ Some r.it) (sym (same_at b r.it r.spot)) (put_found come (without_bindings gone store) r.it come_sort_keys r.among)) ∙ there) in
          came_is b (subst (λ c. has_binding c come ≡ true) same_one r.among)
      by_come false is there = by_gone (list_any (same_sort_key (binding_sort_key b)) (map binding_sort_key gone)) refl (sym (stays_at b is) ∙ there)

  there_kept : (b : Binding) → has_binding b after ≡ true → has_binding b store' ≡ true
  there_kept b e = at_has b store' (by_come (list_any (same_sort_key (binding_sort_key b)) (map binding_sort_key come)) refl)
    where
      was : list_any (same_sort_key (binding_sort_key b)) (map binding_sort_key come) ≡ false → (t : Bool) → has_binding b before ≡ t → has_binding b before ≡ true
      was other true is = is
      was other false is = absurd (false≢true (sym other ∙ sort_key_among b come (change.came b ∙ both (has_binding b after) (not (has_binding b before)) e (ap not is))))

      by_gone : list_any (same_sort_key (binding_sort_key b)) (map binding_sort_key come) ≡ false → (t : Bool) → list_any (same_sort_key (binding_sort_key b)) (map binding_sort_key gone) ≡ t → cond t None (row_at binding_sort_key (binding_sort_key b) store) ≡ Some b
      by_gone other true is =
          let r : AtSortKey b gone = found_sort_key b gone is in
          absurd (went_isn't r.it r.among (subst (λ c. has_binding c after ≡ true) (same_among b r.it before one (was other (has_binding b before) refl) (went_was r.it r.among) r.spot) e))
      by_gone other false is = has_at b store up (same b ∙ was other (has_binding b before) refl)

      by_come : (t : Bool) → list_any (same_sort_key (binding_sort_key b)) (map binding_sort_key come) ≡ t → row_at binding_sort_key (binding_sort_key b) store' ≡ Some b
      by_come true is =
          let r : AtSortKey b come = found_sort_key b come is in
          let same_one : b ≡ r.it = same_among b r.it after one' e (came_is r.it r.among) r.spot in
          put_found come (without_bindings gone store) b come_sort_keys (subst (λ c. has_binding c come ≡ true) (sym same_one) r.among)
      by_come false is = stays_at b is ∙ by_gone is (list_any (same_sort_key (binding_sort_key b)) (map binding_sort_key gone)) refl

  pub replaced_same : HaveSame (replaced gone come store) after
  unfolding replaced
  replaced_same b = both_ways (has_binding b store') (has_binding b after) (kept_there b) (there_kept b)

-- ---- What has the same bindings passes the same tests

half_alike : (test : Binding → Bool) (xs ys : List Binding) → ((b : Binding) → has_binding b xs ≡ true → has_binding b ys ≡ true) → list_any test xs ≡ true → list_any test ys ≡ true
unfolding has_binding
half_alike test [] ys each e = absurd (false≢true e)
half_alike test (x ∷ xs) ys each e = any_by test x xs
    (λ here. any_more (same_binding x) test ys (λ y is. sym (ap test (same_binding_exact x y is)) ∙ here) (each x (any_first (same_binding x) x xs (same_binding_itself x))))
    (half_alike test xs ys (λ b h. each b (any_later (same_binding b) x xs h))) e

pub tests_alike : (xs ys : List Binding) → HaveSame xs ys → (test : Binding → Bool) → list_any test xs ≡ list_any test ys
tests_alike xs ys same test = both_ways (list_any test xs) (list_any test ys) (half_alike test xs ys (λ b h. sym (same b) ∙ h)) (half_alike test ys xs (λ b h. same b ∙ h))

-- ---- The conditions of a change hold

-- one that comes is not of the key and address of one that stays
pub comes_free : (store before after gone come : List Binding) → HaveSame store before → are_apart same_spot after ≡ true → IsBindingChange before after gone come → (b c : Binding) → has_binding b come ≡ true → has_binding c store ≡ true → (has_binding c gone ≡ true → ⊥) → same_spot b c ≡ true → ⊥
comes_free store before after gone come same one change b c comes kept stays spot =
    is_not (has_binding b before) (right_of (has_binding b after) (not (has_binding b before)) (sym (change.came b) ∙ comes))
    (subst (λ x. has_binding x before ≡ true) (sym (same_among b c after one (left_of (has_binding b after) (not (has_binding b before)) (sym (change.came b) ∙ comes)) (still (has_binding c after) refl) spot)) was)
  where
    was : has_binding c before ≡ true
    was = sym (same c) ∙ kept

    still : (t : Bool) → has_binding c after ≡ t → has_binding c after ≡ true
    still true is = is
    still false is = absurd (stays (change.went c ∙ both (has_binding c before) (not (has_binding c after)) was (ap not is)))

-- one that goes is kept
pub gone_kept : (store before after gone come : List Binding) → HaveSame store before → IsBindingChange before after gone come → (b : Binding) → has_binding b gone ≡ true → has_binding b store ≡ true
gone_kept store before after gone come same change b goes = same b ∙ left_of (has_binding b before) (not (has_binding b after)) (sym (change.went b) ∙ goes)
