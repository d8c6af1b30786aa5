-- Bindings are planned by halves, and then put together.
use Rattle.std.proofs.Common.{◌≡◌, ℕ, ◌+◌, ◌*◌, ◌≤◌, List, [], ◌∷◌, ◌++◌, map, take, drop, refl, sym, ap, ◌∙◌, add-mul, arith}
use Rattle.std.proofs.lemmas.List.{map-append, take-append-drop}
use Rattle.base_rows.specs.Sortable.{set_row, set_rows, SortKeysAscend}
use Rattle.base_rows.proofs.SortableLaws.{ascend-set_row, ascend-set_rows}
use Rattle.base_rows.proofs.MergeLaws.{set_row-set_rows}

-- at most b steps for each of both halves
pub steps_of_halves : (mid m n k b s s' s'' : ℕ) → m ≡ mid → n + mid ≡ k → s' ≤ s + m * b → s'' ≤ s' + n * b → s'' ≤ s + k * b
steps_of_halves mid m n k b s s' s'' front back first second = omega (arith, first, second, add-mul n m b, ap (λ (l : ℕ). l * b) long)
  where
    long : n + m ≡ k
    long = omega (arith, front, back)

module _ {R : Type 0} (sort_key : R → List ℕ) where
  -- rows put in among those that are put in, or behind them
  among : (xs ys rows : List R) → SortKeysAscend sort_key ys → SortKeysAscend sort_key rows → set_rows sort_key (set_rows sort_key xs ys) rows ≡ set_rows sort_key xs (set_rows sort_key ys rows)
  among [] ys rows up up' = refl
  among (x ∷ xs) ys rows up up' =
      among xs (set_row sort_key x ys) rows (ascend-set_row sort_key x ys up) up'
      ∙ ap (set_rows sort_key xs) (set_row-set_rows sort_key x ys rows up up')

  -- what was sorted by itself is put in
  pub sorted_alone : (xs own rows : List R) → own ≡ set_rows sort_key xs [] → SortKeysAscend sort_key rows → set_rows sort_key own rows ≡ set_rows sort_key xs rows
  sorted_alone xs own rows is up = ap (λ (l : List R). set_rows sort_key l rows) is ∙ among xs [] rows tt up

  one_by_one : (xs ys rows : List R) → set_rows sort_key (xs ++ ys) rows ≡ set_rows sort_key ys (set_rows sort_key xs rows)
  one_by_one [] ys rows = refl
  one_by_one (x ∷ xs) ys rows = one_by_one xs ys (set_row sort_key x rows)

  -- the first of two lists is put in, and then what was sorted of the second
  pub put_behind : (xs ys first more edits : List R) → first ≡ set_rows sort_key xs [] → more ≡ set_rows sort_key ys [] → edits ≡ set_rows sort_key more first → edits ≡ set_rows sort_key ys (set_rows sort_key xs [])
  put_behind xs ys first more edits is is' put =
      put
      ∙ ap (set_rows sort_key more) is
      ∙ sorted_alone ys more (set_rows sort_key xs []) is' (ascend-set_rows sort_key xs [] tt)

  -- the halves of a list, each sorted by itself, are the list sorted
  pub halves : {A : Type 0} (f : A → R) (n : ℕ) (all front behind : List A) (first more edits : List R) → front ≡ take n all → behind ≡ drop n all
      → first ≡ set_rows sort_key (map f front) [] → more ≡ set_rows sort_key (map f behind) [] → edits ≡ set_rows sort_key more first → edits ≡ set_rows sort_key (map f all) []
  halves f n all front behind first more edits a b is is' put =
      put_behind (map f front) (map f behind) first more edits is is' put
      ∙ sym (one_by_one (map f front) (map f behind) [])
      ∙ ap (λ (l : List R). set_rows sort_key l []) (sym (map-append f front behind) ∙ ap (map f) ((λ i. a i ++ b i) ∙ take-append-drop n all))
