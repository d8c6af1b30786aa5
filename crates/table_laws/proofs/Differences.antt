-- The bindings that a change of rows takes away and brings are the difference of those of all rows.
use Rattle.std.proofs.Common.{◌≡◌, ℕ, Bool, true, false, cond, not, ◌&&◌, List, [], ◌∷◌, Option, Some, None, refl, sym, ap, subst, ◌∙◌}
use Rattle.std.specs.Prelude.{flat_map}
use Rattle.std.specs.List.{list_any, filter}
use Rattle.std.proofs.lemmas.Bool.{false≢true}
use Rattle.base_rows.specs.Sortable.{same_sort_key, SortKeysAscend, row_at}
use Rattle.acl_model.specs.declared.binding.Binding.{Binding}
use Rattle.acl_model.proofs.BindingLaws.{same_spot_itself, spot_of_same, same_binding_exact}
use Rattle.base_rows.specs.Changes.{are_apart, with_found, rows_at}
use Rattle.acl_model.specs.Changes.{same_spot, same_binding, has_binding, those_not_in, IsBindingChange}
use Rattle.base_rows.proofs.ListTests.{both_ways, left_of, right_of, both, not_true, is_not, any_first, any_later, any_by, any_more, any-flat_map}
use Rattle.base_rows.proofs.RowSets.{Passing, found_passing, passing_found}
use Rattle.base_rows.proofs.ListTests.{apart-append, apart-filter}
use Rattle.base_rows.proofs.ChangeLaws.{PassingAt, found_at, at_found}

-- ---- One key and address

pub spot_among : (b : Binding) (bindings : List Binding) → has_binding b bindings ≡ true → list_any (same_spot b) bindings ≡ true
unfolding has_binding
spot_among b bindings e = any_more (same_binding b) (same_spot b) bindings (spot_of_same b) e

-- ---- Those not among others

module _ (b : Binding) (others : List Binding) where
  -- one that is left was there, and isn't among the others
  left_was : (x : Binding) (xs : List Binding) → (list_any (same_binding b) (filter (λ c. not (has_binding c others)) xs) ≡ true → (has_binding b xs && not (has_binding b others)) ≡ true) → (t : Bool) → not (has_binding x others) ≡ t
      → list_any (same_binding b) (cond t (x ∷ filter (λ c. not (has_binding c others)) xs) (filter (λ c. not (has_binding c others)) xs)) ≡ true → (has_binding b (x ∷ xs) && not (has_binding b others)) ≡ true
  unfolding has_binding
  left_was x xs rest true is e = any_by (same_binding b) x (filter (λ c. not (has_binding c others)) xs)
      (λ here. both (has_binding b (x ∷ xs)) (not (has_binding b others)) (any_first (same_binding b) x xs here) (ap (λ c. not (has_binding c others)) (same_binding_exact b x here) ∙ is))
      (λ later. both (has_binding b (x ∷ xs)) (not (has_binding b others)) (any_later (same_binding b) x xs (left_of (has_binding b xs) (not (has_binding b others)) (rest later))) (right_of (has_binding b xs) (not (has_binding b others)) (rest later)))
      e
  left_was x xs rest false is e = both (has_binding b (x ∷ xs)) (not (has_binding b others)) (any_later (same_binding b) x xs (left_of (has_binding b xs) (not (has_binding b others)) (rest e))) (right_of (has_binding b xs) (not (has_binding b others)) (rest e))

  any_left_was : (xs : List Binding) → list_any (same_binding b) (filter (λ c. not (has_binding c others)) xs) ≡ true → (has_binding b xs && not (has_binding b others)) ≡ true
  unfolding has_binding
  any_left_was [] e = absurd (false≢true e)
  any_left_was (x ∷ xs) e = left_was x xs (any_left_was xs) (not (has_binding x others)) refl e

  -- and the other way round
  is_left : (x : Binding) (xs : List Binding) → not (has_binding b others) ≡ true → (has_binding b xs ≡ true → list_any (same_binding b) (filter (λ c. not (has_binding c others)) xs) ≡ true) → (t : Bool) → not (has_binding x others) ≡ t
      → has_binding b (x ∷ xs) ≡ true → list_any (same_binding b) (cond t (x ∷ filter (λ c. not (has_binding c others)) xs) (filter (λ c. not (has_binding c others)) xs)) ≡ true
  unfolding has_binding
  is_left x xs none rest true is e = any_by (same_binding b) x xs (any_first (same_binding b) x (filter (λ c. not (has_binding c others)) xs)) (λ later. any_later (same_binding b) x (filter (λ c. not (has_binding c others)) xs) (rest later)) e
  is_left x xs none rest false is e = any_by (same_binding b) x xs (λ here. absurd (false≢true (sym is ∙ ap (λ c. not (has_binding c others)) (sym (same_binding_exact b x here)) ∙ none))) rest e

  any_is_left : (xs : List Binding) → not (has_binding b others) ≡ true → has_binding b xs ≡ true → list_any (same_binding b) (filter (λ c. not (has_binding c others)) xs) ≡ true
  unfolding has_binding
  any_is_left [] none e = e
  any_is_left (x ∷ xs) none e = is_left x xs none (any_is_left xs none) (not (has_binding x others)) refl e

  pub has-those_not_in : (xs : List Binding) → has_binding b (those_not_in others xs) ≡ (has_binding b xs && not (has_binding b others))
  unfolding those_not_in has_binding
  has-those_not_in xs = both_ways (list_any (same_binding b) (filter (λ c. not (has_binding c others)) xs)) (has_binding b xs && not (has_binding b others))
      (any_left_was xs) (λ e. any_is_left xs (right_of (has_binding b xs) (not (has_binding b others)) e) (left_of (has_binding b xs) (not (has_binding b others)) e))

pub apart-those_not_in : (others xs : List Binding) → are_apart same_spot xs ≡ true → are_apart same_spot (those_not_in others xs) ≡ true
unfolding those_not_in
apart-those_not_in others xs e = apart-filter same_spot (λ c. not (has_binding c others)) xs e

-- ---- Rows and their bindings

-- the bindings that go, where the rows at these sort keys change
unfoldable pub gone_at : {R : Type 0} → (R → List ℕ) → (R → List Binding) → List (List ℕ) → List R → List R → List Binding
gone_at sort_key bindings sort_keys before after = those_not_in (flat_map bindings (rows_at sort_key sort_keys after)) (flat_map bindings (rows_at sort_key sort_keys before))

-- and those that come
unfoldable pub come_at : {R : Type 0} → (R → List ℕ) → (R → List Binding) → List (List ℕ) → List R → List R → List Binding
come_at sort_key bindings sort_keys before after = gone_at sort_key bindings sort_keys after before

module _ {R : Type 0} (sort_key : R → List ℕ) (f : R → List Binding) where
  -- a key and an address are bound by the row of one sort key
  abbrev pub IsOneRow : List R → Type 0
  IsOneRow rows = (b : Binding) (p q : List ℕ) (x y : R) → row_at sort_key p rows ≡ Some x → row_at sort_key q rows ≡ Some y → list_any (same_spot b) (f x) ≡ true → list_any (same_spot b) (f y) ≡ true → p ≡ q

  -- at each other sort key both have the same row
  abbrev pub IsElsewhereSame : List (List ℕ) → List R → List R → Type 0
  IsElsewhereSame sort_keys before after = (q : List ℕ) → list_any (same_sort_key q) sort_keys ≡ false → row_at sort_key q after ≡ row_at sort_key q before

  -- a binding of the rows at sort keys is one of the rows
  at_among : (b : Binding) (sort_keys : List (List ℕ)) (rows : List R) → has_binding b (flat_map f (rows_at sort_key sort_keys rows)) ≡ true → has_binding b (flat_map f rows) ≡ true
  unfolding has_binding
  at_among b sort_keys rows e =
      let r : PassingAt sort_key (λ x. list_any (same_binding b) (f x)) sort_keys rows = found_at sort_key (λ x. list_any (same_binding b) (f x)) sort_keys rows (sym (any-flat_map (same_binding b) f (rows_at sort_key sort_keys rows)) ∙ e) in
      any-flat_map (same_binding b) f rows ∙ passing_found sort_key (λ x. list_any (same_binding b) (f x)) rows r.at r.row r.there r.passes

  -- a binding of the rows, of which one at the sort keys has its key and address, is among those of the rows at the sort keys
  among_at : (b : Binding) (sort_keys : List (List ℕ)) (rows : List R) (p : List ℕ) (x : R) → list_any (same_sort_key p) sort_keys ≡ true → row_at sort_key p rows ≡ Some x → has_binding b (f x) ≡ true → has_binding b (flat_map f (rows_at sort_key sort_keys rows)) ≡ true
  unfolding has_binding
  among_at b sort_keys rows p x one there e = any-flat_map (same_binding b) f (rows_at sort_key sort_keys rows) ∙ at_found sort_key (λ y. list_any (same_binding b) (f y)) p x sort_keys rows one there e

  module _ (sort_keys : List (List ℕ)) (before after : List R) (up : SortKeysAscend sort_key before) (up' : SortKeysAscend sort_key after) (one : IsOneRow before) (rest : IsElsewhereSame sort_keys before after) where
    -- a binding of a row at the sort keys that goes there is nowhere else afterwards: no other row had its key and address
    stays_nowhere : (b : Binding) → has_binding b (flat_map f (rows_at sort_key sort_keys before)) ≡ true → not (has_binding b (flat_map f (rows_at sort_key sort_keys after))) ≡ true → has_binding b (flat_map f after) ≡ true → ⊥
    unfolding has_binding
    stays_nowhere b was gone is =
        let old : PassingAt sort_key (λ x. list_any (same_binding b) (f x)) sort_keys before = found_at sort_key (λ x. list_any (same_binding b) (f x)) sort_keys before (sym (any-flat_map (same_binding b) f (rows_at sort_key sort_keys before)) ∙ was) in
        let new : Passing sort_key (λ x. list_any (same_binding b) (f x)) after = found_passing sort_key (λ x. list_any (same_binding b) (f x)) after up' (sym (any-flat_map (same_binding b) f after) ∙ is) in
        by_sort_key old new (list_any (same_sort_key new.at) sort_keys) refl
      where
        by_sort_key : (old : PassingAt sort_key (λ x. list_any (same_binding b) (f x)) sort_keys before) (new : Passing sort_key (λ x. list_any (same_binding b) (f x)) after) (t : Bool) → list_any (same_sort_key new.at) sort_keys ≡ t → ⊥
        by_sort_key old new true there = is_not (has_binding b (flat_map f (rows_at sort_key sort_keys after))) gone (among_at b sort_keys after new.at new.row there new.there new.passes)
        by_sort_key old new false there = false≢true (sym there ∙ subst (λ p. list_any (same_sort_key p) sort_keys ≡ true)
            (one b old.at new.at old.row new.row old.there (sym (rest new.at there) ∙ new.there) (spot_among b (f old.row) old.passes) (spot_among b (f new.row) new.passes))
            old.one_of)

    -- a binding that was and is no more is one of a row at the sort keys
    was_there : (b : Binding) → has_binding b (flat_map f before) ≡ true → not (has_binding b (flat_map f after)) ≡ true → has_binding b (flat_map f (rows_at sort_key sort_keys before)) ≡ true
    unfolding has_binding
    was_there b was none =
        let old : Passing sort_key (λ x. list_any (same_binding b) (f x)) before = found_passing sort_key (λ x. list_any (same_binding b) (f x)) before up (sym (any-flat_map (same_binding b) f before) ∙ was) in
        by_sort_key old (list_any (same_sort_key old.at) sort_keys) refl
      where
        by_sort_key : (old : Passing sort_key (λ x. list_any (same_binding b) (f x)) before) (t : Bool) → list_any (same_sort_key old.at) sort_keys ≡ t → has_binding b (flat_map f (rows_at sort_key sort_keys before)) ≡ true
        by_sort_key old true there = among_at b sort_keys before old.at old.row there old.there old.passes
        by_sort_key old false there = absurd (is_not (has_binding b (flat_map f after)) none
            (any-flat_map (same_binding b) f after ∙ passing_found sort_key (λ x. list_any (same_binding b) (f x)) after old.at old.row (rest old.at there ∙ old.there) old.passes))

    pub has-gone_at : (b : Binding) → has_binding b (gone_at sort_key f sort_keys before after) ≡ (has_binding b (flat_map f before) && not (has_binding b (flat_map f after)))
    unfolding gone_at
    has-gone_at b =
        let olds : Bool = has_binding b (flat_map f (rows_at sort_key sort_keys before)) in
        let news : Bool = has_binding b (flat_map f (rows_at sort_key sort_keys after)) in
        has-those_not_in b (flat_map f (rows_at sort_key sort_keys after)) (flat_map f (rows_at sort_key sort_keys before))
        ∙ both_ways (olds && not news) (has_binding b (flat_map f before) && not (has_binding b (flat_map f after)))
        (λ e. both (has_binding b (flat_map f before)) (not (has_binding b (flat_map f after)))
        (at_among b sort_keys before (left_of olds (not news) e))
        (not_true (has_binding b (flat_map f after)) (stays_nowhere b (left_of olds (not news) e) (right_of olds (not news) e))))
        (λ e. let was : has_binding b (flat_map f before) ≡ true = left_of (has_binding b (flat_map f before)) (not (has_binding b (flat_map f after))) e in
        let none : not (has_binding b (flat_map f after)) ≡ true = right_of (has_binding b (flat_map f before)) (not (has_binding b (flat_map f after))) e in
        both olds (not news) (was_there b was none) (not_true news (λ new. is_not (has_binding b (flat_map f after)) none (at_among b sort_keys after new))))

  -- ---- No two of one key and address

  apart_with : (q : List ℕ) (qs : List (List ℕ)) (rows : List R) → IsOneRow rows → ((p : List ℕ) (x : R) → row_at sort_key p rows ≡ Some x → are_apart same_spot (f x) ≡ true) → not (list_any (same_sort_key q) qs) ≡ true → are_apart same_spot (flat_map f (rows_at sort_key qs rows)) ≡ true
      → (o : Option R) → row_at sort_key q rows ≡ o → are_apart same_spot (flat_map f (with_found o (rows_at sort_key qs rows))) ≡ true
  apart_with q qs rows one each once rest None there = rest
  apart_with q qs rows one each once rest (Some x) there =
      apart-append same_spot same_spot_itself (f x) (flat_map f (rows_at sort_key qs rows)) (each q x there) rest (λ b here later.
      let r : PassingAt sort_key (λ y. list_any (same_spot b) (f y)) qs rows = found_at sort_key (λ y. list_any (same_spot b) (f y)) qs rows (sym (any-flat_map (same_spot b) f (rows_at sort_key qs rows)) ∙ later) in
      is_not (list_any (same_sort_key q) qs) once (subst (λ p. list_any (same_sort_key p) qs ≡ true) (sym (one b q r.at x r.row there r.there here r.passes)) r.one_of))

  pub apart-rows_at : (qs : List (List ℕ)) (rows : List R) → IsOneRow rows → ((p : List ℕ) (x : R) → row_at sort_key p rows ≡ Some x → are_apart same_spot (f x) ≡ true) → are_apart same_sort_key qs ≡ true → are_apart same_spot (flat_map f (rows_at sort_key qs rows)) ≡ true
  apart-rows_at [] rows one each once = refl
  apart-rows_at (q ∷ qs) rows one each once = apart_with q qs rows one each
      (left_of (not (list_any (same_sort_key q) qs)) (are_apart same_sort_key qs) once)
      (apart-rows_at qs rows one each (right_of (not (list_any (same_sort_key q) qs)) (are_apart same_sort_key qs) once))
      (row_at sort_key q rows) refl

  -- ---- What the rows at the sort keys take away and bring is the difference

  -- rows in their order, of which each has one binding for a key and address, and no two have one
  pub record IsBindingRows (rows : List R) : Type 0 where
    pub ascend : SortKeysAscend sort_key rows
    pub one : IsOneRow rows
    pub each : (p : List ℕ) (x : R) → row_at sort_key p rows ≡ Some x → are_apart same_spot (f x) ≡ true

  elsewhere_back : (sort_keys : List (List ℕ)) (before after : List R) → IsElsewhereSame sort_keys before after → IsElsewhereSame sort_keys after before
  elsewhere_back sort_keys before after same q other = sym (same q other)

  pub binding_change : (sort_keys : List (List ℕ)) (before after : List R) → IsBindingRows before → IsBindingRows after → are_apart same_sort_key sort_keys ≡ true → IsElsewhereSame sort_keys before after
      → IsBindingChange (flat_map f before) (flat_map f after) (gone_at sort_key f sort_keys before after) (come_at sort_key f sort_keys before after)
  unfolding gone_at come_at
  binding_change sort_keys before after old new once same = record {
    went = has-gone_at sort_keys before after old.ascend new.ascend old.one same;
    came = has-gone_at sort_keys after before new.ascend old.ascend new.one (elsewhere_back sort_keys before after same);
    gone_once = apart-those_not_in (flat_map f (rows_at sort_key sort_keys after)) (flat_map f (rows_at sort_key sort_keys before)) (apart-rows_at sort_keys before old.one old.each once);
    come_once = apart-those_not_in (flat_map f (rows_at sort_key sort_keys before)) (flat_map f (rows_at sort_key sort_keys after)) (apart-rows_at sort_keys after new.one new.each once);
  }
