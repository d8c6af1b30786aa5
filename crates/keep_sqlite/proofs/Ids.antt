-- Rows whose rowids are distinct, and what takes out rows by them.
use Rattle.std.proofs.Common.{◌≡◌, inl, inr, ℤ, Bool, true, false, not, cond, ◌||◌, List, [], ◌∷◌, map, refl, sym, ap, subst, ◌∙◌}
use Rattle.std.proofs.lemmas.Bool.{false≢true, cases_Bool}
use Rattle.std.proofs.lemmas.Cmp.{int_cmp_total}
use Rattle.std.proofs.lemmas.Map.Lookups.{exact_signed}
use Rattle.std.specs.List.{filter, list_any, AllByRecursion}
use Rattle.std.specs.Ordering.{is_eq, int_cmp}
use Rattle.std.specs.declared.cmp.Ordering.{Ordering}
use Rattle.std.specs.declared.cmp.Ordering.TheVariants.{Less, Equal, Greater}
use Rattle.sqlite_value.specs.Order.{Row, value_cmp}
use Rattle.sqlite_value.proofs.OrderLemmas.{value_cmp-Int}
use Rattle.sqlite_trees.specs.Tree.{rowid, has_rowid, put_row, without_rowid}
use Rattle.sqlite.specs.Edit.{without_all}
use Rattle.keep_sqlite.specs.Rows.{IsItemRow, id_of, AreDistinct}

pub eq_exact : (o : Ordering) → is_eq o ≡ true → o ≡ Equal
eq_exact Less e = absurd (false≢true e)
eq_exact Equal e = refl
eq_exact Greater e = absurd (false≢true e)

pub int_itself : (a : ℤ) → int_cmp a a ≡ Equal
int_itself a = self (int_cmp a a) (int_cmp_total.antisymm a a)
  where
    self : (o : Ordering) → o ≡ Rattle.std.specs.Ordering.ordering_reverse o → o ≡ Equal
    self Less e = absurd cc
    self Equal e = refl
    self Greater e = absurd cc

pub has_rowid_is : (n : ℤ) (row : Row) → IsItemRow row → has_rowid n row ≡ is_eq (int_cmp (id_of row) n)
has_rowid_is n row it = subst (λ r. has_rowid n r ≡ is_eq (int_cmp (id_of r) n)) (sym it.3) (ap is_eq (value_cmp-Int it.0 n))

pub has_its_rowid : (row : Row) → IsItemRow row → has_rowid (id_of row) row ≡ true
has_its_rowid row it = has_rowid_is (id_of row) row it ∙ ap is_eq (int_itself (id_of row))

pub has_other : (n : ℤ) (row : Row) → IsItemRow row → (id_of row ≡ n → ⊥) → has_rowid n row ≡ false
has_other n row it apart = elim (cases_Bool (has_rowid n row)) [
  | inl same ↦ absurd (apart (exact_signed (id_of row) n (eq_exact (int_cmp (id_of row) n) (sym (has_rowid_is n row it) ∙ same))))
  | inr other ↦ other
]

-- ---- rows that are taken out by their rowids

abbrev pub is_among : List ℤ → Row → Bool
is_among ids row = list_any (λ n. has_rowid n row) ids

two_filters : (p q : Row → Bool) (rows : List Row) → filter (λ r. not (q r)) (filter (λ r. not (p r)) rows) ≡ filter (λ r. not (p r || q r)) rows
two_filters p q [] = refl
two_filters p q (r ∷ rs) = by (two_filters p q rs) (p r)
  where
    by : filter (λ r. not (q r)) (filter (λ r. not (p r)) rs) ≡ filter (λ r. not (p r || q r)) rs → (b : Bool) → filter (λ r. not (q r)) (cond (not b) (r ∷ filter (λ r. not (p r)) rs) (filter (λ r. not (p r)) rs)) ≡ cond (not (b || q r)) (r ∷ filter (λ r. not (p r || q r)) rs) (filter (λ r. not (p r || q r)) rs)
    by rest true = rest
    by rest false = ap (λ xs. cond (not (q r)) (r ∷ xs) xs) rest

no_filter : (rows : List Row) → rows ≡ filter (λ r. not (is_among [] r)) rows
no_filter [] = refl
no_filter (r ∷ rs) = ap (λ xs. r ∷ xs) (no_filter rs)

pub without_all_is : (ids : List ℤ) (rows : List Row) → without_all rows ids ≡ filter (λ r. not (is_among ids r)) rows
without_all_is [] rows = no_filter rows
without_all_is (n ∷ ids) rows = without_all_is ids (without_rowid n rows) ∙ two_filters (has_rowid n) (is_among ids) rows

-- ---- the rowids of the rows that pass a test

module _ (test : Row → Bool) where
  abbrev pub chosen_ids : List Row → List ℤ
  chosen_ids rows = map id_of (filter test rows)

  none_among : (x : Row) (rows : List Row) → IsItemRow x → AllByRecursion (λ other. id_of x ≡ id_of other → ⊥) rows → is_among (chosen_ids rows) x ≡ false
  none_among x [] it apart = refl
  none_among x (r ∷ rs) it apart = by (none_among x rs it apart.1) (test r)
    where
      by : is_among (chosen_ids rs) x ≡ false → (b : Bool) → is_among (map id_of (cond b (r ∷ filter test rs) (filter test rs))) x ≡ false
      by rest true = ap (λ b. b || is_among (chosen_ids rs) x) (has_other (id_of r) x it apart.0) ∙ rest
      by rest false = rest

  one_more : (x : Row) (ids : List ℤ) (b : Bool) (rows : List Row) → AllByRecursion IsItemRow rows → AllByRecursion (λ other. id_of x ≡ id_of other → ⊥) rows → AllByRecursion (λ r. is_among ids r ≡ test r) rows
      → AllByRecursion (λ r. is_among (cond b (id_of x ∷ ids) ids) r ≡ test r) rows
  one_more x ids b [] all apart rest = tt
  one_more x ids true (r ∷ rs) all apart rest = (ap (λ b. b || is_among ids r) (has_other (id_of x) r all.0 (λ e. apart.0 (sym e))) ∙ rest.0, one_more x ids true rs all.1 apart.1 rest.1)
  one_more x ids false (r ∷ rs) all apart rest = rest

  ids_cond : (b : Bool) (x : Row) (xs : List Row) → map id_of (cond b (x ∷ xs) xs) ≡ cond b (id_of x ∷ map id_of xs) (map id_of xs)
  ids_cond true x xs = refl
  ids_cond false x xs = refl

  -- they are the rowids of no other rows
  pub among_chosen : (rows : List Row) → AllByRecursion IsItemRow rows → AreDistinct rows → AllByRecursion (λ r. is_among (chosen_ids rows) r ≡ test r) rows
  among_chosen [] all apart = tt
  among_chosen (x ∷ xs) all apart = (
    first (test x) refl,
    subst (λ ids. AllByRecursion (λ r. is_among ids r ≡ test r) xs) (sym (ids_cond (test x) x (filter test xs))) (one_more x (chosen_ids xs) (test x) xs all.1 apart.0 (among_chosen xs all.1 apart.1)),
  )
    where
      first : (b : Bool) → test x ≡ b → is_among (map id_of (cond b (x ∷ filter test xs) (filter test xs))) x ≡ test x
      first true e = ap (λ b. b || is_among (chosen_ids xs) x) (has_its_rowid x all.0) ∙ sym e
      first false e = none_among x xs all.0 apart.0 ∙ sym e

-- ---- what holds of each row, and of each two

module _ (P : Row → Type 0) where
  pub all-filter : (test : Row → Bool) (rows : List Row) → AllByRecursion P rows → AllByRecursion P (filter test rows)
  all-filter test [] all = tt
  all-filter test (r ∷ rs) all = by (all-filter test rs all.1) (test r)
    where
      by : AllByRecursion P (filter test rs) → (b : Bool) → AllByRecursion P (cond b (r ∷ filter test rs) (filter test rs))
      by rest true = (all.0, rest)
      by rest false = rest

  pub all-put_row : (new : Row) (rows : List Row) → P new → AllByRecursion P rows → AllByRecursion P (put_row new rows)
  all-put_row new [] it all = (it, tt)
  all-put_row new (r ∷ rs) it all = by (all-put_row new rs it all.1) (value_cmp (rowid r) (rowid new))
    where
      by : AllByRecursion P (put_row new rs) → (o : Ordering) → AllByRecursion P (Rattle.std.specs.Ordering.match_ordering o (r ∷ put_row new rs) (new ∷ rs) (new ∷ r ∷ rs))
      by rest Less = (all.0, rest)
      by rest Equal = (it, all.1)
      by rest Greater = (it, all)

pub distinct-filter : (test : Row → Bool) (rows : List Row) → AreDistinct rows → AreDistinct (filter test rows)
distinct-filter test [] apart = tt
distinct-filter test (r ∷ rs) apart = by (distinct-filter test rs apart.1) (test r)
  where
    by : AreDistinct (filter test rs) → (b : Bool) → AreDistinct (cond b (r ∷ filter test rs) (filter test rs))
    by rest true = (all-filter (λ other. id_of r ≡ id_of other → ⊥) test rs apart.0, rest)
    by rest false = rest

pub distinct-put_row : (new : Row) (rows : List Row) → AllByRecursion (λ r. id_of new ≡ id_of r → ⊥) rows → AreDistinct rows → AreDistinct (put_row new rows)
distinct-put_row new [] fresh apart = (tt, tt)
distinct-put_row new (r ∷ rs) fresh apart = by (distinct-put_row new rs fresh.1 apart.1) (value_cmp (rowid r) (rowid new))
  where
    by : AreDistinct (put_row new rs) → (o : Ordering) → AreDistinct (Rattle.std.specs.Ordering.match_ordering o (r ∷ put_row new rs) (new ∷ rs) (new ∷ r ∷ rs))
    by rest Less = (all-put_row (λ other. id_of r ≡ id_of other → ⊥) new rs (λ e. fresh.0 (sym e)) apart.0, rest)
    by rest Equal = (fresh.1, apart.1)
    by rest Greater = ((fresh.0, fresh.1), apart)
