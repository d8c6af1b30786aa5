-- Addresses with expiries are rows by their addresses, so the laws of rows are theirs.
use Rattle.std.proofs.Common.{◌≡◌, ℕ, ◌+◌, ◌≤◌, Bool, true, false, cond, List, [], ◌∷◌, length, Option, Some, None, Result, Ok, Err, refl, sym, ap, ◌∙◌}
use Rattle.std.specs.List.{list_all, filter, AllByRecursion}
use Rattle.std.proofs.lemmas.List.{length-set}
use Rattle.std.proofs.lemmas.Option.{none-some}
use Rattle.mud_base.specs.declared.addr.Addr.{Addr}
use Rattle.base_rows.specs.Sortable.{same_sort_key, SortKeysAscend, row_at, index_in, set_row}
use Rattle.base_rows.specs.Addresses.{addr_sort_key, expiry_sort_key}
use Rattle.base_rows.proofs.SortableLaws.{ascend-set_row, row_at_missed, set_row_found, row_at-set_row_same}
use Rattle.base_rows.proofs.RowLaws.{all-set_row, ascend-filter, length-set_row}
use Rattle.base_rows.proofs.AddressLaws.{same_addr-sort_key}
use Rattle.base_rows.proofs.AscendLaws.{ascend_from, ascend_to}
use Rattle.table_model.specs.Expiries.{Expiries, expiry_of, with_expiry, are_ascending, have_expiries}
use Rattle.table_model.proofs.RowSets.{left_of, right_of, both}
use Rattle.table_model.proofs.Parts.{is_expiry}

-- ---- What holds of rows that one is put into, or some are taken from

pub with_expiry_ascends : (a : Addr) (until : ℕ) (rows : Expiries) → are_ascending rows ≡ true → are_ascending (with_expiry a until rows) ≡ true
unfolding are_ascending with_expiry
with_expiry_ascends a until rows e = ascend_to expiry_sort_key (set_row expiry_sort_key (a, until) rows) (ascend-set_row expiry_sort_key (a, until) rows (ascend_from expiry_sort_key rows e))

pub filter_ascends : (p : Addr × ℕ → Bool) (rows : Expiries) → are_ascending rows ≡ true → are_ascending (filter p rows) ≡ true
unfolding are_ascending
filter_ascends p rows e = ascend_to expiry_sort_key (filter p rows) (ascend-filter expiry_sort_key p rows (ascend_from expiry_sort_key rows e))

pub with_expiry_all : (P : Addr × ℕ → Type 0) (a : Addr) (until : ℕ) (rows : Expiries) → P (a, until) → AllByRecursion P rows → AllByRecursion P (with_expiry a until rows)
unfolding with_expiry
with_expiry_all P a until rows new old = all-set_row expiry_sort_key P (a, until) rows new old

pub all_from : {A : Type 0} (p : A → Bool) (xs : List A) → list_all p xs ≡ true → AllByRecursion (λ x. p x ≡ true) xs
all_from p [] e = tt
all_from p (x ∷ xs) e = (left_of (p x) (list_all p xs) e, all_from p xs (right_of (p x) (list_all p xs) e))

pub all_to : {A : Type 0} (p : A → Bool) (xs : List A) → AllByRecursion (λ x. p x ≡ true) xs → list_all p xs ≡ true
all_to p [] all = refl
all_to p (x ∷ xs) all = both (p x) (list_all p xs) all.0 (all_to p xs all.1)

pub with_expiry_have : (a : Addr) (until : ℕ) (rows : Expiries) → is_expiry until ≡ true → have_expiries rows ≡ true → have_expiries (with_expiry a until rows) ≡ true
unfolding have_expiries
with_expiry_have a until rows new old = all_to (λ r. is_expiry r.1) (with_expiry a until rows) (with_expiry_all (λ r. is_expiry r.1 ≡ true) a until rows new (all_from (λ r. is_expiry r.1) rows old))

all_filter : {A : Type 0} (p q : A → Bool) (xs : List A) → list_all p xs ≡ true → list_all p (filter q xs) ≡ true
all_filter p q [] e = refl
all_filter p q (x ∷ xs) e = by_test (q x) (all_filter p q xs (right_of (p x) (list_all p xs) e))
  where
    by_test : (b : Bool) → list_all p (filter q xs) ≡ true → list_all p (cond b (x ∷ filter q xs) (filter q xs)) ≡ true
    by_test true rest = both (p x) (list_all p (filter q xs)) (left_of (p x) (list_all p xs) e) rest
    by_test false rest = rest

pub filter_expiries : (q : Addr × ℕ → Bool) (rows : Expiries) → have_expiries rows ≡ true → have_expiries (filter q rows) ≡ true
unfolding have_expiries
filter_expiries q rows e = all_filter (λ r. is_expiry r.1) q rows e

pub with_expiry_grown : (a : Addr) (until : ℕ) (rows : Expiries) → length (with_expiry a until rows) ≤ length rows + 1
unfolding with_expiry
with_expiry_grown a until rows = (length-set_row expiry_sort_key (a, until) rows).grown

-- ---- What holds of each row

pub all_kept : {A : Type 0} (P : A → Type 0) (q : A → Bool) (xs : List A) → AllByRecursion P xs → AllByRecursion P (filter q xs)
all_kept P q [] all = tt
all_kept P q (x ∷ xs) all = by_test (q x) (all_kept P q xs all.1)
  where
    by_test : (b : Bool) → AllByRecursion P (filter q xs) → AllByRecursion P (cond b (x ∷ filter q xs) (filter q xs))
    by_test true rest = (all.0, rest)
    by_test false rest = rest

-- ---- Lengths

-- the length stays where the sort key has a row
pub set_row_long : {R : Type 0} (sort_key : R → List ℕ) (row : R) (rows : List R) → SortKeysAscend sort_key rows → (row_at sort_key (sort_key row) rows ≡ None → ⊥) → length (set_row sort_key row rows) ≡ length rows
set_row_long sort_key row rows up there = by_index (index_in sort_key (sort_key row) rows) refl
  where
    by_index : (r : Result ℕ ℕ) → index_in sort_key (sort_key row) rows ≡ r → length (set_row sort_key row rows) ≡ length rows
    by_index (Ok i) is = ap length (set_row_found sort_key row rows i is) ∙ length-set rows i row
    by_index (Err i) is = absurd (there (row_at_missed sort_key (sort_key row) rows i up is))

-- ---- The expiry of an address is that of the row at its sort key

abbrev until_of : Option (Addr × ℕ) → Option ℕ
until_of None = None
until_of (Some r) = Some r.1

expiry_of-row_at : (a : Addr) (rows : Expiries) → expiry_of a rows ≡ until_of (row_at expiry_sort_key (addr_sort_key a) rows)
unfolding expiry_of expiry_sort_key
expiry_of-row_at a [] = refl
expiry_of-row_at a (r ∷ rows) = ap (λ b. cond b (Some r.1) (expiry_of a rows)) (same_addr-sort_key r.0 a) ∙ by_test (same_sort_key (addr_sort_key r.0) (addr_sort_key a)) (expiry_of-row_at a rows)
  where
    by_test : (b : Bool) → expiry_of a rows ≡ until_of (row_at expiry_sort_key (addr_sort_key a) rows) → cond b (Some r.1) (expiry_of a rows) ≡ until_of (cond b (Some r) (row_at expiry_sort_key (addr_sort_key a) rows))
    by_test true rest = refl
    by_test false rest = rest

pub expiry_of-with_expiry : (a : Addr) (until : ℕ) (rows : Expiries) → expiry_of a (with_expiry a until rows) ≡ Some until
unfolding with_expiry expiry_sort_key
expiry_of-with_expiry a until rows = expiry_of-row_at a (set_row expiry_sort_key (a, until) rows) ∙ ap until_of (row_at-set_row_same expiry_sort_key (a, until) rows)

-- the length stays where the address has an expiry
pub with_expiry_long : (a : Addr) (until old : ℕ) (rows : Expiries) → are_ascending rows ≡ true → expiry_of a rows ≡ Some old → length (with_expiry a until rows) ≡ length rows
unfolding with_expiry expiry_sort_key are_ascending
with_expiry_long a until old rows e kept = set_row_long expiry_sort_key (a, until) rows (ascend_from expiry_sort_key rows e) (λ none. none-some old (sym (ap until_of none) ∙ sym (expiry_of-row_at a rows) ∙ kept))
