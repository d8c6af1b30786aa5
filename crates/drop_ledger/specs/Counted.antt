-- Rows that count how often sort keys appear in a list of rows, the first of it the oldest: of all sort keys, or of those that
-- appear first.
use Rattle.std.specs.Prelude.{◌≡◌, ℕ, ◌+◌, ◌≤◌, Bool, not, List, [], ◌∷◌, take, map, filter, length, Option, Some, None, if◌then◌else◌}
use Rattle.std.specs.List.{list_any}
use Rattle.base_rows.specs.Sortable.{same_sort_key, row_at, set_rows}

abbrev pub SortKey : Type 0
SortKey = List ℕ

-- ---- Counts of all sort keys

-- how often a sort key appears
unfoldable pub count_of : SortKey → List SortKey → ℕ
count_of p ps = length (filter (same_sort_key p) ps)

-- the row with the number of times that its sort key appears
unfoldable pub numbered : {R : Type 0} → (R → SortKey) → (ℕ → R → R) → List SortKey → R → R
numbered sort_key counted ps r = counted (count_of (sort_key r) ps) r

-- a row for each sort key that appears, in the order of sort keys, with the number of times
unfoldable pub count_rows : {R : Type 0} → (R → SortKey) → (ℕ → R → R) → List R → List R
count_rows sort_key counted xs = map (numbered sort_key counted (map sort_key xs)) (set_rows sort_key xs [])

-- ---- The sort keys that appear first, by the numbers with which they begin

-- the sort key begins with these numbers
unfoldable pub is_of : SortKey → SortKey → Bool
is_of t p = same_sort_key t (take (length t) p)

unfoldable pub those_of : SortKey → List SortKey → List SortKey
those_of t ps = filter (is_of t) ps

-- ---- Counts of the sort keys that appear first, and of the others together

-- How rows of the first kind are counted together by rows of the second: the first `len` numbers of a sort key are its
-- beginning, and of each beginning `most` sort keys at most have rows of their own.
pub record Kinds (D O : Type 0) : Type 0 where
  pub sort_key : D → SortKey
  pub counted : ℕ → D → D
  pub beginning : O → SortKey
  pub counted_late : ℕ → O → O
  pub other : D → O
  pub len : ℕ
  pub most : ℕ

abbrev pub kinds : {D O : Type 0} → (D → SortKey) → (ℕ → D → D) → (O → SortKey) → (ℕ → O → O) → (D → O) → ℕ → ℕ → Kinds D O
kinds sort_key counted beginning counted_late other len most = record { sort_key = sort_key; counted = counted; beginning = beginning; counted_late = counted_late; other = other; len = len; most = most }

-- each sort key has a beginning, and the row that counts what is left out stands at it
pub record AreKinds {D O : Type 0} (k : Kinds D O) : Type 0 where
  pub long : (d : D) → k.len ≤ length (k.sort_key d)
  pub exact : (o : O) → length (k.beginning o) ≡ k.len
  pub own : (d : D) → k.beginning (k.other d) ≡ take k.len (k.sort_key d)

-- the sort key of the row is among those that appear first
unfoldable pub is_first : {D O : Type 0} → Kinds D O → List SortKey → D → Bool
is_first k ps d = is_kept k.most (take k.len (k.sort_key d)) ps (k.sort_key d)
  where
    -- each sort key once, in the order in which they appear first
    firsts : List SortKey → List SortKey
    firsts [] = []
    firsts (p ∷ ps) = p ∷ filter (λ q. not (same_sort_key p q)) (firsts ps)

    -- of the sort keys that begin so, those that appear first, up to so many
    kept_of : ℕ → SortKey → List SortKey → List SortKey
    kept_of most t ps = take most (firsts (those_of t ps))

    is_kept : ℕ → SortKey → List SortKey → SortKey → Bool
    is_kept most t ps p = list_any (same_sort_key p) (kept_of most t ps)

-- a row for each sort key that is among those that appear first, in the order of sort keys, with the number of times
unfoldable pub first_rows : {D O : Type 0} → Kinds D O → List D → List D
first_rows k xs = map (numbered k.sort_key k.counted (map k.sort_key xs)) (filter (is_first k (map k.sort_key xs)) (set_rows k.sort_key xs []))

-- a row for each beginning of which sort keys appear that aren't among the first, with the number of times
unfoldable pub late_rows : {D O : Type 0} → Kinds D O → List D → List O
late_rows k xs = count_rows k.beginning k.counted_late (others_of k (map k.sort_key xs) xs)
  where
    -- the rows of the beginnings of those that aren't among the first, one for each time
    others_of : {D O : Type 0} → Kinds D O → List SortKey → List D → List O
    others_of k ps xs = map k.other (filter (λ d. not (is_first k ps d)) xs)

-- these are the rows of both kinds
pub record AreFirstRows {D O : Type 0} (k : Kinds D O) (xs first : List D) (late : List O) : Type 0 where
  pub rows : first ≡ first_rows k xs
  pub others : late ≡ late_rows k xs

-- ---- Sums

unfoldable pub total : {R : Type 0} → (R → ℕ) → List R → ℕ
total f [] = 0
total f (x ∷ xs) = f x + total f xs

-- the counts of the rows whose sort keys begin so
unfoldable pub sum_of : {R : Type 0} → (R → SortKey) → (R → ℕ) → SortKey → List R → ℕ
sum_of sort_key count t rows = total (λ r. if is_of t (sort_key r) then count r else 0) rows

unfoldable pub found_count : {R : Type 0} → (R → ℕ) → Option R → ℕ
found_count count None = 0
found_count count (Some r) = count r

-- the count of the row of a sort key, and 0 where there is none
unfoldable pub count_at : {R : Type 0} → (R → SortKey) → (R → ℕ) → SortKey → List R → ℕ
count_at sort_key count p rows = found_count count (row_at sort_key p rows)
