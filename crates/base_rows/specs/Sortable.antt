-- Rows in the order of their sort keys, each sort key once. A sort key is a list of numbers, and each
-- definition takes the function that gives a row's sort key.
use Rattle.std.specs.Prelude.{◌≡◌, ℕ, suc, nat_eq, Bool, List, [], ◌∷◌, filter, if◌then◌else◌, Option, Some, None, Result, Ok, Err}
use Rattle.std.specs.List.{starts_with, list_all}
use Rattle.std.specs.Str.{bytes_eq}
use Rattle.std.specs.Ordering.{nat_cmp, ordering_then, is_lt}
use Rattle.std.specs.Cmp.Lexicographic.{slice_cmp}
use Rattle.std.specs.declared.cmp.Ordering.{Ordering}
use Rattle.std.specs.declared.cmp.Ordering.TheVariants.{Less, Equal, Greater}

-- ---- Sort keys

-- the first numbers that differ decide, and else the lengths
abbrev pub sort_key_cmp : List ℕ → List ℕ → Ordering
sort_key_cmp p q = slice_cmp nat_cmp p q

abbrev pub same_sort_key : List ℕ → List ℕ → Bool
same_sort_key p q = bytes_eq p q

-- a beginning against the beginning, just as long, of a sort key
abbrev pub prefix_cmp : List ℕ → List ℕ → Ordering
prefix_cmp [] q = Equal
prefix_cmp (n ∷ p) [] = Greater
prefix_cmp (n ∷ p) (k ∷ q) = ordering_then (nat_cmp n k) (prefix_cmp p q)

-- ---- Ascending rows

-- the sort key is before that of each row
abbrev pub SortKeysAbove : {R : Type 0} → (R → List ℕ) → List ℕ → List R → Type 0
SortKeysAbove sort_key p [] = Unit {0}
SortKeysAbove sort_key p (x ∷ xs) = (sort_key_cmp p (sort_key x) ≡ Less) × SortKeysAbove sort_key p xs

-- each row's sort key is before the sort key
abbrev pub SortKeysBelow : {R : Type 0} → (R → List ℕ) → List ℕ → List R → Type 0
SortKeysBelow sort_key p [] = Unit {0}
SortKeysBelow sort_key p (x ∷ xs) = (sort_key_cmp (sort_key x) p ≡ Less) × SortKeysBelow sort_key p xs

-- each row's sort key is before those of the rows after it
abbrev pub SortKeysAscend : {R : Type 0} → (R → List ℕ) → List R → Type 0
SortKeysAscend sort_key [] = Unit {0}
SortKeysAscend sort_key (x ∷ xs) = SortKeysAbove sort_key (sort_key x) xs × SortKeysAscend sort_key xs

-- each row of the first list is before each of the second
abbrev pub ComeBefore : {R : Type 0} → (R → List ℕ) → List R → List R → Type 0
ComeBefore sort_key [] ys = Unit {0}
ComeBefore sort_key (x ∷ xs) ys = SortKeysAbove sort_key (sort_key x) ys × ComeBefore sort_key xs ys

-- rows, and how many more there is room for
pub record RowsAndRoom (R : Type 0) : Type 0 where
  pub rows : List R
  pub room : ℕ

-- ---- Looking up

-- the row of a sort key
abbrev pub row_at : {R : Type 0} → (R → List ℕ) → List ℕ → List R → Option R
row_at sort_key p [] = None
row_at sort_key p (x ∷ xs) = if same_sort_key (sort_key x) p then Some x else row_at sort_key p xs

-- one row later
abbrev pub one_on : Result ℕ ℕ → Result ℕ ℕ
one_on (Ok i) = Ok (suc i)
one_on (Err i) = Err (suc i)

-- the index of the row of a sort key, or else the index at which it belongs
abbrev pub index_in : {R : Type 0} → (R → List ℕ) → List ℕ → List R → Result ℕ ℕ
index_in sort_key p [] = Err 0
index_in sort_key p (x ∷ xs) = elim (sort_key_cmp p (sort_key x)) [ Less ↦ Err 0 | Equal ↦ Ok 0 | Greater ↦ one_on (index_in sort_key p xs) ]

-- the row's sort key begins with these numbers
abbrev pub is_under : {R : Type 0} → (R → List ℕ) → List ℕ → R → Bool
is_under sort_key prefix x = starts_with nat_eq (sort_key x) prefix

-- the rows whose sort keys begin with these numbers
abbrev pub rows_under : {R : Type 0} → (R → List ℕ) → List ℕ → List R → List R
rows_under sort_key prefix rows = filter (is_under sort_key prefix) rows

-- ---- Changing

-- the rows with this one put in, instead of the one of its sort key if there is one
abbrev pub set_row : {R : Type 0} → (R → List ℕ) → R → List R → List R
set_row sort_key row [] = row ∷ []
set_row sort_key row (x ∷ xs) =
    elim (sort_key_cmp (sort_key row) (sort_key x)) [ Less ↦ row ∷ (x ∷ xs) | Equal ↦ row ∷ xs | Greater ↦ x ∷ set_row sort_key row xs ]

-- the rows with each of these put in, from the first to the last
abbrev pub set_rows : {R : Type 0} → (R → List ℕ) → List R → List R → List R
set_rows sort_key [] rows = rows
set_rows sort_key (x ∷ xs) rows = set_rows sort_key xs (set_row sort_key x rows)

-- the rows without the one of a sort key
abbrev pub without_row : {R : Type 0} → (R → List ℕ) → List ℕ → List R → List R
without_row sort_key p [] = []
without_row sort_key p (x ∷ xs) = elim (sort_key_cmp p (sort_key x)) [ Less ↦ x ∷ xs | Equal ↦ xs | Greater ↦ x ∷ without_row sort_key p xs ]

-- the row's sort key is after those of all rows
abbrev pub comes_last : {R : Type 0} → (R → List ℕ) → R → List R → Bool
comes_last sort_key row rows = list_all (is_after sort_key row) rows
  where
    -- the second row's sort key is before the first one's
    is_after : {R : Type 0} → (R → List ℕ) → R → R → Bool
    is_after sort_key row x = is_lt (sort_key_cmp (sort_key x) (sort_key row))
