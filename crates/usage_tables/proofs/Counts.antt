-- The entries of all approved files, where a row is put in or taken away.
use Rattle.std.proofs.Common.{◌≡◌, ℕ, ◌+◌, cond, List, [], ◌∷◌, ◌++◌, Option, Some, None, refl, ap, arith}
use Rattle.std.specs.declared.cmp.Ordering.{Ordering}
use Rattle.std.specs.declared.cmp.Ordering.TheVariants.{Less, Equal, Greater}
use Rattle.base_rows.specs.Sortable.{sort_key_cmp, row_at, set_row, without_row, SortKeysAscend}
use Rattle.base_rows.proofs.SortableLaws.{same_sort_key-cmp, sort_key_cmp_turned, above_trans, row_at_above}
use Rattle.usage_tables.specs.declared.cached_file.CachedFile.{CachedFile}
use Rattle.usage_tables.specs.Files.{url_of, approved_entries, entry_count}

-- the entries of what was found at a sort key
abbrev pub entries_found : Option CachedFile → ℕ
entries_found None = 0
entries_found (Some row) = approved_entries row.approved

-- the row of a sort key, where the first row has it and where it hasn't
found_first : (p : List ℕ) (x : CachedFile) (xs : List CachedFile) → sort_key_cmp p (url_of x) ≡ Equal → row_at url_of p (x ∷ xs) ≡ Some x
found_first p x xs e = ap (λ b. cond b (Some x) (row_at url_of p xs)) (same_sort_key-cmp (url_of x) p Equal (sort_key_cmp_turned p (url_of x) Equal e))

found_later : (p : List ℕ) (x : CachedFile) (xs : List CachedFile) → sort_key_cmp p (url_of x) ≡ Greater → row_at url_of p (x ∷ xs) ≡ row_at url_of p xs
found_later p x xs e = ap (λ b. cond b (Some x) (row_at url_of p xs)) (same_sort_key-cmp (url_of x) p Less (sort_key_cmp_turned p (url_of x) Greater e))

found_nowhere : (p : List ℕ) (x : CachedFile) (xs : List CachedFile) → SortKeysAscend url_of (x ∷ xs) → sort_key_cmp p (url_of x) ≡ Less → row_at url_of p (x ∷ xs) ≡ None
found_nowhere p x xs ascend e = row_at_above url_of p (x ∷ xs) (e, above_trans url_of p (url_of x) xs e ascend.0)

put_less : (n a b f : ℕ) → f ≡ 0 → (n + (a + b)) + f ≡ (a + b) + n
put_less n a b f e = omega arith

put_equal : (n a b f : ℕ) → f ≡ a → (n + b) + f ≡ (a + b) + n
put_equal n a b f e = omega arith

put_greater : (n a b c f g : ℕ) → f ≡ g → c + g ≡ b + n → (a + c) + f ≡ (a + b) + n
put_greater n a b c f g e h = omega arith

take_less : (n f : ℕ) → f ≡ 0 → n + f ≡ n
take_less n f e = omega arith

take_equal : (a b f : ℕ) → f ≡ a → b + f ≡ a + b
take_equal a b f e = omega arith

take_greater : (a b c f g : ℕ) → f ≡ g → c + g ≡ b → (a + c) + f ≡ a + b
take_greater a b c f g e h = omega arith

abbrev first_set : CachedFile → CachedFile → List CachedFile → Ordering → List CachedFile
first_set row x xs o = elim o [ Less ↦ row ∷ (x ∷ xs) | Equal ↦ row ∷ xs | Greater ↦ x ∷ set_row url_of row xs ]

abbrev first_gone : List ℕ → CachedFile → List CachedFile → Ordering → List CachedFile
first_gone p x xs o = elim o [ Less ↦ x ∷ xs | Equal ↦ xs | Greater ↦ x ∷ without_row url_of p xs ]

-- what was there goes, and the row's own come
pub entry_count-set_row : (row : CachedFile) (rows : List CachedFile) → SortKeysAscend url_of rows → entry_count (set_row url_of row rows) + entries_found (row_at url_of (url_of row) rows) ≡ entry_count rows + approved_entries row.approved
unfolding entry_count
entry_count-set_row row [] ascend = omega arith
entry_count-set_row row (x ∷ xs) ascend = by_first (sort_key_cmp (url_of row) (url_of x)) refl (entry_count-set_row row xs ascend.1)
  where
    by_first : (o : Ordering) → sort_key_cmp (url_of row) (url_of x) ≡ o → entry_count (set_row url_of row xs) + entries_found (row_at url_of (url_of row) xs) ≡ entry_count xs + approved_entries row.approved → entry_count (first_set row x xs o) + entries_found (row_at url_of (url_of row) (x ∷ xs)) ≡ entry_count (x ∷ xs) + approved_entries row.approved
    by_first Less e rest = put_less (approved_entries row.approved) (approved_entries x.approved) (entry_count xs) (entries_found (row_at url_of (url_of row) (x ∷ xs))) (ap entries_found (found_nowhere (url_of row) x xs ascend e))
    by_first Equal e rest = put_equal (approved_entries row.approved) (approved_entries x.approved) (entry_count xs) (entries_found (row_at url_of (url_of row) (x ∷ xs))) (ap entries_found (found_first (url_of row) x xs e))
    by_first Greater e rest = put_greater (approved_entries row.approved) (approved_entries x.approved) (entry_count xs) (entry_count (set_row url_of row xs)) (entries_found (row_at url_of (url_of row) (x ∷ xs))) (entries_found (row_at url_of (url_of row) xs)) (ap entries_found (found_later (url_of row) x xs e)) rest

pub entry_count-without_row : (p : List ℕ) (rows : List CachedFile) → SortKeysAscend url_of rows → entry_count (without_row url_of p rows) + entries_found (row_at url_of p rows) ≡ entry_count rows
unfolding entry_count
entry_count-without_row p [] ascend = refl
entry_count-without_row p (x ∷ xs) ascend = by_first (sort_key_cmp p (url_of x)) refl (entry_count-without_row p xs ascend.1)
  where
    by_first : (o : Ordering) → sort_key_cmp p (url_of x) ≡ o → entry_count (without_row url_of p xs) + entries_found (row_at url_of p xs) ≡ entry_count xs → entry_count (first_gone p x xs o) + entries_found (row_at url_of p (x ∷ xs)) ≡ entry_count (x ∷ xs)
    by_first Less e rest = take_less (approved_entries x.approved + entry_count xs) (entries_found (row_at url_of p (x ∷ xs))) (ap entries_found (found_nowhere p x xs ascend e))
    by_first Equal e rest = take_equal (approved_entries x.approved) (entry_count xs) (entries_found (row_at url_of p (x ∷ xs))) (ap entries_found (found_first p x xs e))
    by_first Greater e rest = take_greater (approved_entries x.approved) (entry_count xs) (entry_count (without_row url_of p xs)) (entries_found (row_at url_of p (x ∷ xs))) (entries_found (row_at url_of p xs)) (ap entries_found (found_later p x xs e)) rest

pub entry_count-push : (rows : List CachedFile) (row : CachedFile) → entry_count (rows ++ row ∷ []) ≡ entry_count rows + approved_entries row.approved
unfolding entry_count
entry_count-push [] row = omega arith
entry_count-push (x ∷ xs) row = omega (arith, entry_count-push xs row)
