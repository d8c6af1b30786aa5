-- What rows have in common, told by the rows at their sort keys.
use Rattle.std.proofs.Common.{◌≡◌, ℕ, ◌≤◌, Bool, true, false, cond, ◌&&◌, ◌||◌, List, [], ◌∷◌, length, map, Option, Some, None, refl, sym, ap, subst, ◌∙◌, arith}
use Rattle.std.specs.List.{list_any, filter, AllByRecursion}
use Rattle.std.specs.Option.{option_map, option_map_or}
use Rattle.std.specs.declared.cmp.Ordering.{Ordering}
use Rattle.std.specs.declared.cmp.Ordering.TheVariants.{Less, Equal, Greater}
use Rattle.std.proofs.lemmas.Bool.{false≢true}
use Rattle.std.proofs.lemmas.Option.{same_Some, none-some}
use Rattle.base_rows.specs.Sortable.{sort_key_cmp, same_sort_key, SortKeysAbove, SortKeysAscend, row_at, set_row, set_rows}
use Rattle.base_rows.proofs.SortableLaws.{sort_key_cmp_exact, sort_key_cmp_turned, same_sort_key-cmp, same_sort_key_exact, same_sort_key_itself, above_trans, row_at_above, row_at-set_row}
use Rattle.base_rows.proofs.RowLaws.{same_rows, sort_key_row_at}
use Rattle.base_rows.proofs.ListTests.{any_first, any_later, any_by}

drop_first : (b c : Bool) → b ≡ false → (b || c) ≡ true → c ≡ true
drop_first true c no' e = absurd (false≢true (sym no'))
drop_first false c no' e = e

-- ---- Some row passes a test

module _ {R : Type 0} (sort_key : R → List ℕ) where
  -- a row that passes the test, found at its sort key
  pub record Passing (test : R → Bool) (rows : List R) : Type 0 where
    pub at : List ℕ
    pub row : R
    pub there : row_at sort_key at rows ≡ Some row
    pub passes : test row ≡ true

  pub at_later : (p : List ℕ) (x row : R) (xs : List R) → SortKeysAbove sort_key (sort_key x) xs → row_at sort_key p xs ≡ Some row → (b : Bool) → same_sort_key (sort_key x) p ≡ b → cond b (Some x) (row_at sort_key p xs) ≡ Some row
  at_later p x row xs above found true e = absurd (none-some row (sym (subst (λ q. row_at sort_key q xs ≡ None) (same_sort_key_exact (sort_key x) p e) (row_at_above sort_key (sort_key x) xs above)) ∙ found))
  at_later p x row xs above found false e = found

  pub found_passing : (test : R → Bool) (rows : List R) → SortKeysAscend sort_key rows → list_any test rows ≡ true → Passing test rows
  found_passing test [] ascend e = absurd (false≢true e)
  found_passing test (x ∷ xs) ascend e =
      any_by test x xs
      (λ is. record { at = sort_key x; row = x; there = ap (λ b. cond b (Some x) (row_at sort_key (sort_key x) xs)) (same_sort_key_itself (sort_key x)); passes = is })
      (λ rest. let later : Passing test xs = found_passing test xs ascend.1 rest in
      record { at = later.at; row = later.row; there = at_later later.at x later.row xs ascend.0 later.there (same_sort_key (sort_key x) later.at) refl; passes = later.passes })
      e

  pub passing_found : (test : R → Bool) (rows : List R) (p : List ℕ) (row : R) → row_at sort_key p rows ≡ Some row → test row ≡ true → list_any test rows ≡ true
  passing_found test [] p row there e = absurd (none-some row there)
  passing_found test (x ∷ xs) p row there e = by_first (same_sort_key (sort_key x) p) refl (passing_found test xs p row)
    where
      by_first : (b : Bool) → same_sort_key (sort_key x) p ≡ b → (row_at sort_key p xs ≡ Some row → test row ≡ true → list_any test xs ≡ true) → list_any test (x ∷ xs) ≡ true
      by_first true is later = any_first test x xs (ap test (same_Some x row (sym (ap (λ b. cond b (Some x) (row_at sort_key p xs)) is) ∙ there)) ∙ e)
      by_first false is later = any_later test x xs (later (sym (ap (λ b. cond b (Some x) (row_at sort_key p xs)) is) ∙ there) e)

  -- what a test asks of the row at a sort key
  at_by : (p : List ℕ) (q : R → Bool) (y : R) (ys : List R) → SortKeysAbove sort_key (sort_key y) ys → list_any (λ z. same_sort_key (sort_key z) p && q z) ys ≡ option_map_or q (row_at sort_key p ys) false → (b : Bool) → same_sort_key (sort_key y) p ≡ b → ((b && q y) || list_any (λ z. same_sort_key (sort_key z) p && q z) ys) ≡ option_map_or q (cond b (Some y) (row_at sort_key p ys)) false
  at_by p q y ys above rest true e =
      let at : sort_key y ≡ p = same_sort_key_exact (sort_key y) p e in
      ap (λ c. q y || c) (rest ∙ ap (λ (o : Option R). option_map_or q o false) (row_at_above sort_key p ys (subst (λ (r : List ℕ). SortKeysAbove sort_key r ys) at above))) ∙ or_none (q y)
    where
      or_none : (b : Bool) → (b || false) ≡ b
      or_none true = refl
      or_none false = refl
  at_by p q y ys above rest false e = rest

  pub tested_at : (p : List ℕ) (q : R → Bool) (ys : List R) → SortKeysAscend sort_key ys → list_any (λ z. same_sort_key (sort_key z) p && q z) ys ≡ option_map_or q (row_at sort_key p ys) false
  tested_at p q [] up = refl
  tested_at p q (y ∷ ys) up = at_by p q y ys up.0 (tested_at p q ys up.1) (same_sort_key (sort_key y) p) refl

  kept_by : (p : List ℕ) (f : R → Bool) (r y : R) (ys : List R) → f r ≡ true → (row_at sort_key p ys ≡ Some r → list_any (λ z. same_sort_key (sort_key z) p) (filter f ys) ≡ true) → (b : Bool) → same_sort_key (sort_key y) p ≡ b → cond b (Some y) (row_at sort_key p ys) ≡ Some r → (c : Bool) → f y ≡ c → list_any (λ z. same_sort_key (sort_key z) p) (cond c (y ∷ filter f ys) (filter f ys)) ≡ true
  kept_by p f r y ys passes rest true here is true test = ap (λ b. b || list_any (λ z. same_sort_key (sort_key z) p) (filter f ys)) here
  kept_by p f r y ys passes rest true here is false test = absurd (false≢true (sym test ∙ ap f (same_Some y r is) ∙ passes))
  kept_by p f r y ys passes rest false here is true test = ap (λ b. b || list_any (λ z. same_sort_key (sort_key z) p) (filter f ys)) here ∙ rest is
  kept_by p f r y ys passes rest false here is false test = rest is

  -- the row at a sort key is among those that pass
  pub kept_at : (p : List ℕ) (f : R → Bool) (r : R) (ys : List R) → f r ≡ true → row_at sort_key p ys ≡ Some r → list_any (λ z. same_sort_key (sort_key z) p) (filter f ys) ≡ true
  kept_at p f r [] passes is = absurd (none-some r is)
  kept_at p f r (y ∷ ys) passes is = kept_by p f r y ys passes (kept_at p f r ys passes) (same_sort_key (sort_key y) p) refl is (f y) refl

  -- ---- Rows that are found alike are the same

  found_same : (xs ys : List R) → ((r : R) → row_at sort_key (sort_key r) xs ≡ row_at sort_key (sort_key r) ys) → (p : List ℕ) (o w : Option R) → row_at sort_key p xs ≡ o → row_at sort_key p ys ≡ w → o ≡ w
  found_same xs ys same p None None e f = refl
  found_same xs ys same p (Some x) w e f = let at : sort_key x ≡ p = sort_key_row_at sort_key p xs x e in sym e ∙ subst (λ (q : List ℕ). row_at sort_key q xs ≡ row_at sort_key q ys) at (same x) ∙ f
  found_same xs ys same p None (Some y) e f = let at : sort_key y ≡ p = sort_key_row_at sort_key p ys y f in sym e ∙ subst (λ (q : List ℕ). row_at sort_key q xs ≡ row_at sort_key q ys) at (same y) ∙ f

  pub same_rows_by : (xs ys : List R) → SortKeysAscend sort_key xs → SortKeysAscend sort_key ys → ((r : R) → row_at sort_key (sort_key r) xs ≡ row_at sort_key (sort_key r) ys) → xs ≡ ys
  same_rows_by xs ys up up' same = same_rows sort_key xs ys up up' (λ p. found_same xs ys same p (row_at sort_key p xs) (row_at sort_key p ys) refl refl)

  -- ---- Rows that are put in

  abbrev pub stands_at : List ℕ → R → Bool
  stands_at p x = same_sort_key (sort_key x) p

  at_first : (p : List ℕ) (w old : Option R) (x : R) (any b : Bool) → (b ≡ true → w ≡ Some x) → cond any w (cond b (Some x) old) ≡ cond (b || any) w old
  at_first p w old x true true is = refl
  at_first p w old x false true is = sym (is refl)
  at_first p w old x true false is = refl
  at_first p w old x false false is = refl

  -- where the rows that are put in and stand at a sort key are all this one
  pub row_at-set_alike : (p : List ℕ) (w : Option R) (xs rows : List R) → AllByRecursion (λ x. stands_at p x ≡ true → w ≡ Some x) xs → row_at sort_key p (set_rows sort_key xs rows) ≡ cond (list_any (stands_at p) xs) w (row_at sort_key p rows)
  row_at-set_alike p w [] rows all = refl
  row_at-set_alike p w (x ∷ xs) rows all =
      row_at-set_alike p w xs (set_row sort_key x rows) all.1
      ∙ ap (cond (list_any (stands_at p) xs) w) (row_at-set_row sort_key x rows p)
      ∙ at_first p w (row_at sort_key p rows) x (list_any (stands_at p) xs) (stands_at p x) all.0

-- ---- Images of rows

module _ {R S : Type 0} (sort_key : R → List ℕ) (sort_key' : S → List ℕ) (f : R → S) where
  image_by : (x : R) (o : Option R) (b : Bool) → cond b (Some (f x)) (option_map f o) ≡ option_map f (cond b (Some x) o)
  image_by x o true = refl
  image_by x o false = refl

  -- where the image of a row has the one sort key just where the row has the other
  pub row_at-map : (p q : List ℕ) → ((x : R) → same_sort_key (sort_key' (f x)) q ≡ same_sort_key (sort_key x) p) → (rows : List R) → row_at sort_key' q (map f rows) ≡ option_map f (row_at sort_key p rows)
  row_at-map p q alike [] = refl
  row_at-map p q alike (x ∷ xs) =
      ap (λ b. cond b (Some (f x)) (row_at sort_key' q (map f xs))) (alike x)
      ∙ ap (cond (same_sort_key (sort_key x) p) (Some (f x))) (row_at-map p q alike xs)
      ∙ image_by x (row_at sort_key p xs) (same_sort_key (sort_key x) p)

-- ---- Ascending rows whose sort keys are all among those of others are no more

module _ {X Y : Type 0} (px : X → List ℕ) (py : Y → List ℕ) where
  abbrev stands : List Y → X → Type 0
  stands ys x = list_any (λ y. same_sort_key (py y) (px x)) ys ≡ true

  none_below : (p : List ℕ) (ys : List Y) → SortKeysAbove py p ys → list_any (λ y. same_sort_key (py y) p) ys ≡ false
  none_below p [] above = refl
  none_below p (y ∷ ys) above = ap (λ b. b || list_any (λ z. same_sort_key (py z) p) ys) (same_sort_key-cmp (py y) p Greater (sort_key_cmp_turned p (py y) Less above.0)) ∙ none_below p ys above.1

  passed : (y : Y) (ys : List Y) (xs : List X) → SortKeysAbove px (py y) xs → AllByRecursion (stands (y ∷ ys)) xs → AllByRecursion (stands ys) xs
  passed y ys [] above all = tt
  passed y ys (x ∷ xs) above all = (drop_first (same_sort_key (py y) (px x)) _ (same_sort_key-cmp (py y) (px x) Less above.0) all.0, passed y ys xs above.1 all.1)

  covered_by : (x : X) (xs : List X) (y : Y) (ys : List Y) → SortKeysAscend px (x ∷ xs) → SortKeysAscend py (y ∷ ys) → AllByRecursion (stands (y ∷ ys)) (x ∷ xs)
      → ((zs : List X) → SortKeysAscend px zs → AllByRecursion (stands ys) zs → length zs ≤ length ys) → (o : Ordering) → sort_key_cmp (px x) (py y) ≡ o → length (x ∷ xs) ≤ length (y ∷ ys)
  covered_by x xs y ys up up' all rest Less e = absurd (false≢true (sym (none_below (px x) (y ∷ ys) (e, above_trans py (px x) (py y) ys e up'.0)) ∙ all.0))
  covered_by x xs y ys up up' all rest Equal e =
      let fewer : length xs ≤ length ys = rest xs up.1 (passed y ys xs (subst (λ (p : List ℕ). SortKeysAbove px p xs) (sort_key_cmp_exact (px x) (py y) e) up.0) all.1) in
      omega arith
  covered_by x xs y ys up up' all rest Greater e =
      let less : sort_key_cmp (py y) (px x) ≡ Less = sort_key_cmp_turned (px x) (py y) Greater e in
      let fewer : length (x ∷ xs) ≤ length ys = rest (x ∷ xs) up (passed y ys (x ∷ xs) (less, above_trans px (py y) (px x) xs less up.0) all) in
      omega arith

  pub covered : (ys : List Y) (xs : List X) → SortKeysAscend px xs → SortKeysAscend py ys → AllByRecursion (stands ys) xs → length xs ≤ length ys
  covered ys [] up up' all = omega arith
  covered [] (x ∷ xs) up up' all = absurd (false≢true all.0)
  covered (y ∷ ys) (x ∷ xs) up up' all = covered_by x xs y ys up up' all (λ zs upz allz. covered ys zs upz up'.1 allz) (sort_key_cmp (px x) (py y)) refl
