-- Rows in order that are put in among others all at once: the last of all is moved first.
use Rattle.std.proofs.Common.{◌≡◌, ℕ, suc, ◌-◌, ◌<◌, Bool, true, false, cond, List, [], ◌∷◌, ◌++◌, length, slice_get, Option, Some, refl, sym, ap, subst, ◌∙◌, arith}
use mathlib.Core.List.{reverse}
use Rattle.std.proofs.lemmas.List.{append-nil, append_assoc, reverse-append, length-append}
use Rattle.std.proofs.lemmas.Option.{same_Some}
use Rattle.std.specs.List.{AllByRecursion}
use Rattle.std.specs.Option.{option_or}
use Rattle.std.specs.declared.cmp.Ordering.{Ordering}
use Rattle.std.specs.declared.cmp.Ordering.TheVariants.{Less, Equal, Greater}
use Rattle.base_rows.specs.Sortable.{sort_key_cmp, same_sort_key, row_at, SortKeysAbove, SortKeysBelow, SortKeysAscend, set_row, set_rows}
use Rattle.base_rows.specs.Merging.{IsMoved, IsCut}
use Rattle.base_rows.proofs.SortableLaws.{sort_key_cmp_exact, sort_key_cmp_trans, sort_key_cmp_turned, same_sort_key_exact, row_at_above, row_at-set_row, ascend-set_row, ascend-set_rows, set_rows-push}
use Rattle.base_rows.proofs.IndexLaws.{set_row-behind, set_row-before}
use Rattle.base_rows.proofs.RowLaws.{all-set_rows, same_rows}

-- ---- The last element

at_end : {A : Type 0} (front : List A) (last : A) → slice_get (front ++ last ∷ []) (length front) ≡ Some last
at_end [] last = refl
at_end (x ∷ xs) last = at_end xs last

pub last_there : {A : Type 0} (list front : List A) (last : A) → list ≡ front ++ last ∷ [] → slice_get list (length list - 1) ≡ Some last
last_there list front last is =
    let long : length list - 1 ≡ length front = omega (arith, ap length is, length-append front (last ∷ [])) in
    ap (slice_get list) long ∙ ap (λ l. slice_get l (length front)) is ∙ at_end front last

-- a list that isn't empty has a last element
pub record Ends {A : Type 0} (list : List A) : Type 0 where
  pub front : List A
  pub last : A
  pub is : list ≡ front ++ last ∷ []

pub ends : {A : Type 0} (list : List A) → 0 < length list → Ends list
ends [] some = absurd (omega arith)
ends (x ∷ []) some = record { front = []; last = x; is = refl }
ends (x ∷ (y ∷ ys)) some = let rest : Ends (y ∷ ys) = ends (y ∷ ys) (omega arith) in record { front = x ∷ rest.front; last = rest.last; is = ap (λ l. x ∷ l) rest.is }

-- what stands behind, and what was moved
pub moved_back : {A : Type 0} (xs to to' : List A) (last : A) → to' ≡ to ++ last ∷ [] → xs ++ reverse to' ≡ (xs ++ last ∷ []) ++ reverse to
moved_back xs to to' last is = ap (λ l. xs ++ reverse l) is ∙ ap (λ l. xs ++ l) (reverse-append to (last ∷ [])) ∙ sym (append_assoc xs (last ∷ []) (reverse to))

module _ {R : Type 0} (sort_key : R → List ℕ) where
  -- each row's sort key is before a sort key
  abbrev Below : List ℕ → List R → Type 0
  Below p rows = AllByRecursion (λ x. sort_key_cmp (sort_key x) p ≡ Less) rows

  sort_keys_below : (p : List ℕ) (rows : List R) → Below p rows → SortKeysBelow sort_key p rows
  sort_keys_below p [] all = tt
  sort_keys_below p (x ∷ xs) all = (all.0, sort_keys_below p xs all.1)

  above_last : (p : List ℕ) (row : R) (xs : List R) → SortKeysAbove sort_key p (xs ++ row ∷ []) → sort_key_cmp p (sort_key row) ≡ Less
  above_last p row [] above = above.0
  above_last p row (x ∷ xs) above = above_last p row xs above.1

  above_front : (p : List ℕ) (row : R) (xs : List R) → SortKeysAbove sort_key p (xs ++ row ∷ []) → SortKeysAbove sort_key p xs
  above_front p row [] above = tt
  above_front p row (x ∷ xs) above = (above.0, above_front p row xs above.1)

  below_last : (row : R) (rows : List R) → SortKeysAscend sort_key (rows ++ row ∷ []) → Below (sort_key row) rows
  below_last row [] up = tt
  below_last row (x ∷ xs) up = (above_last (sort_key x) row xs up.0, below_last row xs up.1)

  front_ascends : (row : R) (rows : List R) → SortKeysAscend sort_key (rows ++ row ∷ []) → SortKeysAscend sort_key rows
  front_ascends row [] up = tt
  front_ascends row (x ∷ xs) up = (above_front (sort_key x) row xs up.0, front_ascends row xs up.1)

  -- the rows in front of the last are in order, and below it
  pub rest_ascends : (row : R) (rows front : List R) → rows ≡ front ++ row ∷ [] → SortKeysAscend sort_key rows → SortKeysAscend sort_key front
  rest_ascends row rows front is up = front_ascends row front (subst (SortKeysAscend sort_key) is up)

  -- ---- A row behind all others

  put_last : (row : R) (rows : List R) → Below (sort_key row) rows → set_row sort_key row rows ≡ rows ++ row ∷ []
  put_last row rows all = ap (set_row sort_key row) (sym (append-nil rows)) ∙ set_row-behind sort_key row rows [] (sort_keys_below (sort_key row) rows all)

  below_set_rows : (p : List ℕ) (more rows : List R) → Below p more → Below p rows → Below p (set_rows sort_key more rows)
  below_set_rows p more rows all rest = all-set_rows sort_key (λ x. sort_key_cmp (sort_key x) p ≡ Less) more rows all rest

  -- it stays behind what is put in
  stays_last : (row : R) (more rows : List R) → Below (sort_key row) more → set_rows sort_key more (rows ++ row ∷ []) ≡ set_rows sort_key more rows ++ row ∷ []
  stays_last row [] rows all = refl
  stays_last row (x ∷ xs) rows all = ap (set_rows sort_key xs) (set_row-before sort_key x rows (row ∷ []) (all.0, tt)) ∙ stays_last row xs (set_row sort_key x rows) all.1

  -- or is put in behind
  comes_last : (row : R) (more rows : List R) → Below (sort_key row) more → Below (sort_key row) rows → set_rows sort_key (more ++ row ∷ []) rows ≡ set_rows sort_key more rows ++ row ∷ []
  comes_last row more rows all rest = set_rows-push sort_key more row rows ∙ put_last row (set_rows sort_key more rows) (below_set_rows (sort_key row) more rows all rest)

  over_first : (row x : R) → sort_key_cmp (sort_key row) (sort_key x) ≡ Equal → set_row sort_key row (x ∷ []) ≡ row ∷ []
  over_first row x same = ap (λ (o : Ordering). elim o [ Less ↦ row ∷ (x ∷ []) | Equal ↦ row ∷ [] | Greater ↦ x ∷ (row ∷ []) ]) same

  -- or in place of the last
  comes_over : (row x : R) (more rows : List R) → sort_key_cmp (sort_key row) (sort_key x) ≡ Equal → Below (sort_key row) more → Below (sort_key row) rows → set_rows sort_key (more ++ row ∷ []) (rows ++ x ∷ []) ≡ set_rows sort_key more rows ++ row ∷ []
  comes_over row x more rows same all rest =
      set_rows-push sort_key more row (rows ++ x ∷ [])
      ∙ ap (set_row sort_key row) (stays_last x more rows (subst (λ (p : List ℕ). Below p more) (sort_key_cmp_exact (sort_key row) (sort_key x) same) all))
      ∙ set_row-behind sort_key row (set_rows sort_key more rows) (x ∷ []) (sort_keys_below (sort_key row) (set_rows sort_key more rows) (below_set_rows (sort_key row) more rows all rest))
      ∙ ap (λ l. set_rows sort_key more rows ++ l) (over_first row x same)

  -- ---- The steps

  -- how the last rows of two lists stand to one another
  abbrev pub AreOrdered : List R → List R → Ordering → Type 0
  AreOrdered rows more o = (row other : R) → slice_get rows (length rows - 1) ≡ Some row → slice_get more (length more - 1) ≡ Some other → sort_key_cmp (sort_key row) (sort_key other) ≡ o

  -- the last one of those that are put in is the last of all
  below_all : (rows : List R) (row : R) → SortKeysAscend sort_key rows → ((x : R) → slice_get rows (length rows - 1) ≡ Some x → sort_key_cmp (sort_key x) (sort_key row) ≡ Less) → Below (sort_key row) rows
  below_all [] row up less = tt
  below_all (x ∷ []) row up less = (less x refl, tt)
  below_all (x ∷ (y ∷ ys)) row up less =
      let rest : Below (sort_key row) (y ∷ ys) = below_all (y ∷ ys) row up.1 (λ z e. less z (ap (slice_get (x ∷ (y ∷ ys))) {x = length (x ∷ (y ∷ ys)) - 1} {y = suc (length (y ∷ ys) - 1)} (omega arith) ∙ e)) in
      (sort_key_cmp_trans (sort_key x) (sort_key y) (sort_key row) up.0.0 rest.0, rest)

  pub moves_more : (rows more more' moved moved' : List R) → SortKeysAscend sort_key rows → SortKeysAscend sort_key more → IsMoved more more' moved moved' → AreOrdered rows more Less → set_rows sort_key more' rows ++ reverse moved' ≡ set_rows sort_key more rows ++ reverse moved
  moves_more rows more more' moved moved' up up' m order =
      let below = below_last m.last more' (subst (SortKeysAscend sort_key) m.left up') in
      let all = below_all rows m.last up (λ x e. order x m.last e (last_there more more' m.last m.left)) in
      moved_back (set_rows sort_key more' rows) moved moved' m.last m.come
      ∙ ap (λ l. l ++ reverse moved) (sym (comes_last m.last more' rows below all) ∙ ap (λ l. set_rows sort_key l rows) (sym m.left))

  pub moves_rows : (rows rows' more moved moved' : List R) → SortKeysAscend sort_key more → IsMoved rows rows' moved moved' → Ends more → AreOrdered rows more Greater → set_rows sort_key more rows' ++ reverse moved' ≡ set_rows sort_key more rows ++ reverse moved
  moves_rows rows rows' more moved moved' up m ends order =
      let other = ends.last in
      let there = last_there more ends.front ends.last ends.is in
      let greater = order m.last other (last_there rows rows' m.last m.left) there in
      let all = below_all more m.last up (λ x e. sort_key_cmp_turned (sort_key m.last) (sort_key x) Greater (subst (λ (y : R). sort_key_cmp (sort_key m.last) (sort_key y) ≡ Greater) (same_Some other x (sym there ∙ e)) greater)) in
      moved_back (set_rows sort_key more rows') moved moved' m.last m.come
      ∙ ap (λ l. l ++ reverse moved) (sym (stays_last m.last more rows' all) ∙ ap (set_rows sort_key more) (sym m.left))

  pub drops_row : (rows rows' more : List R) → SortKeysAscend sort_key rows → SortKeysAscend sort_key more → IsCut rows rows' → Ends more → AreOrdered rows more Equal → set_rows sort_key more rows' ≡ set_rows sort_key more rows
  drops_row rows rows' more up up' cut ends order =
      let same = order cut.last ends.last (last_there rows rows' cut.last cut.left) (last_there more ends.front ends.last ends.is) in
      let back : sort_key_cmp (sort_key ends.last) (sort_key cut.last) ≡ Equal = sort_key_cmp_turned (sort_key cut.last) (sort_key ends.last) Equal same in
      let all = below_last ends.last ends.front (subst (SortKeysAscend sort_key) ends.is up') in
      let rest = subst (λ (p : List ℕ). Below p rows') (sort_key_cmp_exact (sort_key cut.last) (sort_key ends.last) same) (below_last cut.last rows' (subst (SortKeysAscend sort_key) cut.left up)) in
      ap (λ l. set_rows sort_key l rows') ends.is
      ∙ comes_last ends.last ends.front rows' all rest
      ∙ sym (comes_over ends.last cut.last ends.front rows' back all rest)
      ∙ ap (λ l. set_rows sort_key l (rows' ++ cut.last ∷ [])) (sym ends.is)
      ∙ ap (set_rows sort_key more) (sym cut.left)

  -- ---- Rows that are put in among rows that are put in

  first_over : (p : List ℕ) (x : R) (xs : List R) (o : Option R) → SortKeysAbove sort_key (sort_key x) xs → (b : Bool) → same_sort_key (sort_key x) p ≡ b → option_or (row_at sort_key p xs) (cond b (Some x) o) ≡ option_or (cond b (Some x) (row_at sort_key p xs)) o
  first_over p x xs o above true is = ap (λ w. option_or w (Some x)) (row_at_above sort_key p xs (subst (λ (q : List ℕ). SortKeysAbove sort_key q xs) (same_sort_key_exact (sort_key x) p is) above))
  first_over p x xs o above false is = refl

  -- a sort key has the row that is put in there, or else the one that it had
  pub row_at-set_sorted : (p : List ℕ) (more rows : List R) → SortKeysAscend sort_key more → row_at sort_key p (set_rows sort_key more rows) ≡ option_or (row_at sort_key p more) (row_at sort_key p rows)
  row_at-set_sorted p [] rows up = refl
  row_at-set_sorted p (x ∷ xs) rows up =
      row_at-set_sorted p xs (set_row sort_key x rows) up.1
      ∙ ap (option_or (row_at sort_key p xs)) (row_at-set_row sort_key x rows p)
      ∙ first_over p x xs (row_at sort_key p rows) up.0 (same_sort_key (sort_key x) p) refl

  or_first : (o w : Option R) (x : R) (b : Bool) → option_or (cond b (Some x) o) w ≡ cond b (Some x) (option_or o w)
  or_first o w x true = refl
  or_first o w x false = refl

  -- it is one whether a row is put in among those that are put in, or behind them
  pub set_row-set_rows : (row : R) (more rows : List R) → SortKeysAscend sort_key more → SortKeysAscend sort_key rows → set_rows sort_key (set_row sort_key row more) rows ≡ set_row sort_key row (set_rows sort_key more rows)
  set_row-set_rows row more rows up up' = same_rows sort_key (set_rows sort_key (set_row sort_key row more) rows) (set_row sort_key row (set_rows sort_key more rows)) (ascend-set_rows sort_key (set_row sort_key row more) rows up') (ascend-set_row sort_key row (set_rows sort_key more rows) (ascend-set_rows sort_key more rows up')) (λ p.
      row_at-set_sorted p (set_row sort_key row more) rows (ascend-set_row sort_key row more up)
      ∙ ap (λ w. option_or w (row_at sort_key p rows)) (row_at-set_row sort_key row more p)
      ∙ or_first (row_at sort_key p more) (row_at sort_key p rows) row (same_sort_key (sort_key row) p)
      ∙ sym (row_at-set_row sort_key row (set_rows sort_key more rows) p ∙ ap (cond (same_sort_key (sort_key row) p) (Some row)) (row_at-set_sorted p more rows up)))
