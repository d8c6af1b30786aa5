-- Why nothing is read of a database, from what its rows show, and what a database that holds items shows.
use Rattle.std.proofs.Common.{◌≡◌, inl, inr, ℕ, zero, suc, ◌+◌, ◌<◌, ℤ, Bool, false, List, [], ◌∷◌, map, length, get_or, IsTrue, IsPermutation, IsSorted, refl, sym, ap, ap₂, subst, ◌∙◌, arith}
use Rattle.std.proofs.lemmas.Bool.{false≢true, cases_Bool}
use Rattle.std.proofs.lemmas.Cmp.{int_cmp_total}
use Rattle.std.proofs.lemmas.Map.Lookups.{exact_signed}
use Rattle.std.proofs.lemmas.Map.Keys.{apart_from_distinct, IsDistinct-IsPermutation}
use Rattle.std.proofs.lemmas.List.Elements.{All-from_recursion, recursion_from_All}
use Rattle.std.proofs.lemmas.List.Sorted.{All-permutation}
use Rattle.std.specs.List.{AllByRecursion, IsDistinct}
use Rattle.std.specs.Ordering.{is_eq, is_lt, nat_cmp, int_cmp, ordering_then, ordering_reverse}
use Rattle.std.specs.Cmp.Lexicographic.{slice_cmp}
use Rattle.std.specs.declared.cmp.Ordering.{Ordering}
use Rattle.std.specs.declared.cmp.Ordering.TheVariants.{Less, Equal, Greater}
use Rattle.sqlite.specs.declared.error.Error.{Error}
use Rattle.sqlite_value.specs.Order.{Row, column, value_cmp}
use Rattle.sqlite_value.proofs.OrderLemmas.{value_cmp-Int, value_cmp-Blob}
use Rattle.sqlite_rules.specs.Lists.{Has}
use Rattle.sqlite.specs.Effect.{Database}
use Rattle.sqlite.specs.State.{State}
use Rattle.sqlite.specs.Held.{Held, state}
use Rattle.sqlite_trees.specs.declared.store.Store.{Ghosts}
use Rattle.base_rows.specs.Sortable.{sort_key_cmp, same_sort_key}
use Rattle.base_rows.proofs.SortableLaws.{sort_key_cmp_turned, same_sort_key-cmp, same_sort_key_exact, ascend_from_neighbours, sort_key_cmp_total}
use Rattle.base_rows.proofs.RowLaws.{ascend-map}
use Rattle.base_rows.proofs.Lists.{all-map}
use Rattle.mud_world.specs.Items.{sort_key_of, IsOrdered}
use Rattle.keep_sqlite.specs.declared.refusal.Refusal.{Refusal}
use Rattle.keep_sqlite.specs.declared.refusal.Refusal.TheVariants.{Memory, InUse, CannotOpen, NoStore, DiskFull, DiskFailed, Shut, Other}
use Rattle.keep_sqlite.specs.Batches.{Makes, Stays}
use Rattle.keep_sqlite.specs.Refused.{TellsError, IsUnread, FindsOrMakes}
use Rattle.keep_sqlite.specs.Rows.{id_of, IsItemRow, AreDistinct, HoldsItems, MayHold, MayMake}
use Rattle.keep_sqlite.specs.Selections.{item_shown, number_shown, shown_cmp, id_cmp, shown_row, shown_id, AreUnequal, ShowsItem, ShowsId}
use Rattle.keep_sqlite.proofs.Comparisons.{cmp_naturals}
use Rattle.keep_sqlite.proofs.Ids.{eq_exact, int_itself}
use Rattle.keep_sqlite.proofs.Lookups.{sort_key_in}
use Rattle.keep_sqlite.proofs.Unique.{one_id}

-- ---- refusals

tells_as : {F G : Error → Type 0} (r : Refusal) → ((e : Error) → F e → G e) → TellsError F r → TellsError G r
tells_as r f it = record { error = it.error; told = it.told; fails = f it.error it.fails }

-- an error of the database is told
pub unread_told : {F : Error → Type 0} (H : Type 0) (r : Refusal) → TellsError F r → IsUnread F H r
unread_told H Memory it = tt
unread_told H InUse it = it
unread_told H CannotOpen it = it
unread_told H NoStore it = inr it
unread_told H DiskFull it = it
unread_told H DiskFailed it = it
unread_told H Shut it = it
unread_told H Other it = it

-- what fails for a part fails for the whole
pub unread_as : {F G : Error → Type 0} {H J : Type 0} (r : Refusal) → ((e : Error) → F e → G e) → (J → H) → IsUnread F H r → IsUnread G J r
unread_as Memory f back it = tt
unread_as InUse f back it = tells_as InUse f it
unread_as CannotOpen f back it = tells_as CannotOpen f it
unread_as NoStore f back (inl lacks) = inl (λ holds. lacks (back holds))
unread_as NoStore f back (inr it) = inr (tells_as NoStore f it)
unread_as DiskFull f back it = tells_as DiskFull f it
unread_as DiskFailed f back it = tells_as DiskFailed f it
unread_as Shut f back it = tells_as Shut f it
unread_as Other f back it = tells_as Other f it

-- an opening that has changed nothing
pub makes_nothing : (s : State) → (IsTrue s.is_open → s.now ≡ s.committed) → Makes s s
makes_nothing s settled = record { was_open = λ o. o; made = λ _. inl refl; settled = settled }

-- an opening that goes on and changes nothing more
pub makes_still : (old mid new : State) → Makes old mid → Stays mid new → Makes old new
makes_still old mid new made same = record {
  was_open = λ o. made.was_open (same.was_open o);
  made = λ o. subst (MayMake old.now) (sym (same.now_is o (made.settled (same.was_open o)))) (made.made (same.was_open o));
  settled = λ o. same.now_is o (made.settled (same.was_open o)) ∙ made.settled (same.was_open o) ∙ sym (same.committed_is o);
}

module _ {S : Type 0} (g : Ghosts S) (old new : Held S) where
  -- a table that was found or made is that of items, where the database held items or had none
  pub ready_holds : FindsOrMakes g old new → MayHold false (state g old).now → HoldsItems (state g new).now
  ready_holds (inl (same, made)) (inl holds) = subst (λ h. HoldsItems (state g h).now) (sym same) holds
  ready_holds (inl (same, made)) (inr (unopened, blank)) = absurd (made blank)
  ready_holds (inr (blank, is_open, holds)) may = holds

  pub ready_open : FindsOrMakes g old new → IsTrue (state g old).is_open → IsTrue (state g new).is_open
  ready_open (inl (same, made)) was = subst (λ h. IsTrue (state g h).is_open) (sym same) was
  ready_open (inr (blank, is_open, holds)) was = is_open

-- ---- what each row of an answer shows

answer_has : (P : Row → Type 0) (f : Row → Row) (rows answer : List Row) → IsPermutation (map f rows) answer → AllByRecursion (λ r. P (f r)) rows → AllByRecursion P answer
answer_has P f rows answer same all = recursion_from_All P answer (All-permutation P (map f rows) answer same (All-from_recursion P (map f rows) (all-map P f rows all)))

item_row_shows : (r : Row) → IsItemRow r → ShowsItem (shown_row r)
item_row_shows r it = subst (λ x. ShowsItem (shown_row x)) (sym it.3) (record { low = it.2; kind = refl; key = refl; body = refl })

id_row_shows : (r : Row) → IsItemRow r → ShowsId (shown_id r)
id_row_shows r it = subst (λ x. ShowsId (shown_id x)) (sym it.3) (record { id = refl })

each_row : {P Q : Row → Type 0} (rows : List Row) → ((r : Row) → P r → Q r) → AllByRecursion P rows → AllByRecursion Q rows
each_row [] f all = tt
each_row (r ∷ rs) f all = (f r all.0, each_row rs f all.1)

pub items_are_shown : (db : Database) (answer : List Row) → HoldsItems db → IsPermutation (map shown_row (db.trees 0)) answer → AllByRecursion ShowsItem answer
items_are_shown db answer holds same = answer_has ShowsItem shown_row (db.trees 0) answer same (each_row (db.trees 0) item_row_shows holds.rows)

pub ids_are_shown : (db : Database) (answer : List Row) → HoldsItems db → IsPermutation (map shown_id (db.trees 0)) answer → AllByRecursion ShowsId answer
ids_are_shown db answer holds same = answer_has ShowsId shown_id (db.trees 0) answer same (each_row (db.trees 0) id_row_shows holds.rows)

-- ---- the items that are shown are ordered

then_equal : (o : Ordering) → ordering_then o Equal ≡ o
then_equal Less = refl
then_equal Equal = refl
then_equal Greater = refl

-- ORDER BY goes by the sort keys
shown_keys : (a b : Row) → ShowsItem a → ShowsItem b → shown_cmp a b ≡ sort_key_cmp (sort_key_of (item_shown a)) (sort_key_of (item_shown b))
shown_keys a b p q =
    let x = item_shown a in
    let y = item_shown b in
    let kinds : value_cmp (column a 0) (column b 0) ≡ nat_cmp x.kind y.kind = ap₂ value_cmp p.kind q.kind ∙ value_cmp-Int _ _ ∙ cmp_naturals x.kind y.kind in
    let names : value_cmp (column a 1) (column b 1) ≡ slice_cmp nat_cmp x.key y.key = ap₂ value_cmp p.key q.key ∙ value_cmp-Blob x.key y.key in
    ap₂ (λ o u. ordering_then o (ordering_then u Equal)) kinds names ∙ ap (ordering_then (nat_cmp x.kind y.kind)) (then_equal (slice_cmp nat_cmp x.key y.key))

-- a sort key that is not behind another and differs from it is before it
is_before : (p q : List ℕ) → is_lt (sort_key_cmp q p) ≡ false → same_sort_key p q ≡ false → sort_key_cmp p q ≡ Less
is_before p q up apart = by (sort_key_cmp p q) refl
  where
    by : (o : Ordering) → sort_key_cmp p q ≡ o → sort_key_cmp p q ≡ Less
    by Less e = e
    by Equal e = absurd (false≢true (sym apart ∙ same_sort_key-cmp p q Equal e))
    by Greater e = absurd (false≢true (sym up ∙ ap is_lt (sort_key_cmp_turned p q Greater e)))

abbrev key_shown : Row → List ℕ
key_shown row = sort_key_of (item_shown row)

abbrev same_key : Row → Row → Bool
same_key a b = same_sort_key (key_shown a) (key_shown b)

turned : (o u : Ordering) → u ≡ ordering_reverse o → is_eq o ≡ is_eq u
turned Less u e = sym (ap is_eq e)
turned Equal u e = sym (ap is_eq e)
turned Greater u e = sym (ap is_eq e)

same_key_flips : (a b : Row) → same_key a b ≡ same_key b a
same_key_flips a b =
    let p = key_shown a in
    let q = key_shown b in
    same_sort_key-cmp p q (sort_key_cmp p q) refl ∙ turned (sort_key_cmp p q) (sort_key_cmp q p) (sort_key_cmp_total.antisymm q p) ∙ sym (same_sort_key-cmp q p (sort_key_cmp q p) refl)

every_at : (P : Row → Type 0) (rows : List Row) (k : ℕ) (d : Row) → k < length rows → AllByRecursion P rows → P (get_or rows k d)
every_at P [] k d below all = absurd (omega (arith, below))
every_at P (r ∷ rs) zero d below all = all.0
every_at P (r ∷ rs) (suc k) d below all = every_at P rs k d (omega arith) all.1

module _ (db : Database) (holds : HoldsItems db) where
  keys_far : (r : Row) (rows : List Row) → Has (db.trees 0) r → ((s : Row) → Has rows s → Has (db.trees 0) s) → AllByRecursion (λ other. id_of r ≡ id_of other → ⊥) rows → AllByRecursion (λ s. same_key (shown_row r) s ≡ false) (map shown_row rows)
  keys_far r [] has into far = tt
  keys_far r (s ∷ ss) has into far = (
    elim (cases_Bool (same_sort_key (sort_key_in r) (sort_key_in s))) [
      | inl same ↦ absurd (far.0 (one_id db holds r s has (into s (inl refl)) (same_sort_key_exact (sort_key_in r) (sort_key_in s) same)))
      | inr apart ↦ apart
    ],
    keys_far r ss has (λ t there. into t (inr there)) far.1,
  )

  keys_apart : (rows : List Row) → ((s : Row) → Has rows s → Has (db.trees 0) s) → AreDistinct rows → IsDistinct same_key (map shown_row rows)
  unfolding IsDistinct
  keys_apart [] into apart = tt
  keys_apart (r ∷ rs) into apart = (keys_far r rs (into r (inl refl)) (λ t there. into t (inr there)) apart.0, keys_apart rs (λ t there. into t (inr there)) apart.1)

  keys_differ : (answer : List Row) → IsPermutation (map shown_row (db.trees 0)) answer → IsDistinct same_key answer
  keys_differ answer same = IsDistinct-IsPermutation same_key same_key_flips (map shown_row (db.trees 0)) answer same (keys_apart (db.trees 0) (λ s there. there) holds.distinct)

  pub items_are_ordered : (answer : List Row) → IsPermutation (map shown_row (db.trees 0)) answer → IsSorted shown_cmp answer → IsOrdered (map item_shown answer)
  items_are_ordered answer same sorted =
      let shown = items_are_shown db answer holds same in
      let apart = keys_differ answer same in
      ascend-map key_shown sort_key_of item_shown (λ x y. refl) answer (ascend_from_neighbours key_shown answer (λ k d below.
      let a = get_or answer k d in
      let b = get_or answer (k + 1) d in
      is_before (key_shown a) (key_shown b)
      (ap is_lt (sym (shown_keys b a (every_at ShowsItem answer (k + 1) d below shown) (every_at ShowsItem answer k d (omega (arith, below)) shown))) ∙ sorted k d (omega arith) below)
      (apart_from_distinct same_key answer k (k + 1) d apart (omega arith) below)))

-- ---- the rowids that are shown rise

abbrev same_number : Row → Row → Bool
same_number a b = is_eq (int_cmp (number_shown a) (number_shown b))

same_number_flips : (a b : Row) → same_number a b ≡ same_number b a
same_number_flips a b = turned (int_cmp (number_shown a) (number_shown b)) (int_cmp (number_shown b) (number_shown a)) (int_cmp_total.antisymm (number_shown b) (number_shown a))

numbers_far : (n : ℤ) (rows : List Row) → AllByRecursion (λ m. n ≡ m → ⊥) (map number_shown rows) → AllByRecursion (λ r. is_eq (int_cmp n (number_shown r)) ≡ false) rows
numbers_far n [] far = tt
numbers_far n (r ∷ rs) far = (
  elim (cases_Bool (is_eq (int_cmp n (number_shown r)))) [
    | inl same ↦ absurd (far.0 (exact_signed n (number_shown r) (eq_exact (int_cmp n (number_shown r)) same)))
    | inr apart ↦ apart
  ],
  numbers_far n rs far.1,
)

far_numbers : (n : ℤ) (rows : List Row) → AllByRecursion (λ r. is_eq (int_cmp n (number_shown r)) ≡ false) rows → AllByRecursion (λ m. n ≡ m → ⊥) (map number_shown rows)
far_numbers n [] far = tt
far_numbers n (r ∷ rs) far = ((λ same. false≢true (sym far.0 ∙ ap (λ m. is_eq (int_cmp n m)) (sym same) ∙ ap is_eq (int_itself n))), far_numbers n rs far.1)

numbers_apart : (rows : List Row) → AreUnequal (map number_shown rows) → IsDistinct same_number rows
unfolding IsDistinct
numbers_apart [] apart = tt
numbers_apart (r ∷ rs) apart = (numbers_far (number_shown r) rs apart.0, numbers_apart rs apart.1)

apart_numbers : (rows : List Row) → IsDistinct same_number rows → AreUnequal (map number_shown rows)
unfolding IsDistinct
apart_numbers [] apart = tt
apart_numbers (r ∷ rs) apart = (far_numbers (number_shown r) rs apart.0, apart_numbers rs apart.1)

-- numbers are unequal in any order
pub unequal_in : (rows answer : List Row) → IsPermutation rows answer → AreUnequal (map number_shown rows) → AreUnequal (map number_shown answer)
unequal_in rows answer same apart = apart_numbers answer (IsDistinct-IsPermutation same_number same_number_flips rows answer same (numbers_apart rows apart))

-- the rowids of the rows, as they are shown
pub shown_distinct : (rows : List Row) → AreDistinct rows → AreUnequal (map number_shown (map shown_id rows))
shown_distinct [] apart = tt
shown_distinct (r ∷ rs) apart = (all_over rs apart.0, shown_distinct rs apart.1)
  where
    all_over : (ss : List Row) → AllByRecursion (λ s. id_of r ≡ id_of s → ⊥) ss → AllByRecursion (λ m. id_of r ≡ m → ⊥) (map number_shown (map shown_id ss))
    all_over [] far = tt
    all_over (s ∷ ss) far = (far.0, all_over ss far.1)

pub distinct_shown : (rows : List Row) → AreUnequal (map number_shown (map shown_id rows)) → AreDistinct rows
distinct_shown [] apart = tt
distinct_shown (r ∷ rs) apart = (all_under rs apart.0, distinct_shown rs apart.1)
  where
    all_under : (ss : List Row) → AllByRecursion (λ m. id_of r ≡ m → ⊥) (map number_shown (map shown_id ss)) → AllByRecursion (λ s. id_of r ≡ id_of s → ⊥) ss
    all_under [] far = tt
    all_under (s ∷ ss) far = (far.0, all_under ss far.1)

shown_ids : (a b : Row) → ShowsId a → ShowsId b → id_cmp a b ≡ int_cmp (number_shown a) (number_shown b)
shown_ids a b p q = then_equal (value_cmp (column a 0) (column b 0)) ∙ ap₂ value_cmp p.id q.id ∙ value_cmp-Int (number_shown a) (number_shown b)

pub numbers_sorted : (answer : List Row) → AllByRecursion ShowsId answer → IsSorted id_cmp answer → IsSorted int_cmp (map number_shown answer)
numbers_sorted [] shown sorted k d low below = absurd (omega (arith, below))
numbers_sorted (a ∷ []) shown sorted k d low below = absurd (omega (arith, below))
numbers_sorted (a ∷ (b ∷ rows)) shown sorted zero d low below = ap is_lt (sym (shown_ids b a shown.1.0 shown.0)) ∙ sorted 0 a (omega arith) (omega arith)
numbers_sorted (a ∷ (b ∷ rows)) shown sorted (suc k) d low below =
    let rest = numbers_sorted (b ∷ rows) shown.1 (λ j e p q. subst (λ n. is_lt (id_cmp (get_or (a ∷ (b ∷ rows)) n e) (get_or (b ∷ rows) j e)) ≡ false) {x = suc j + 1} {y = suc (j + 1)} (omega arith) (sorted (suc j) e (omega arith) (omega arith))) in
    subst (λ n. is_lt (int_cmp (get_or (map number_shown (a ∷ (b ∷ rows))) n d) (get_or (map number_shown (b ∷ rows)) k d)) ≡ false) {x = suc (k + 1)} {y = suc k + 1} (omega arith) (rest k d (omega arith) (omega arith))

unequal_at : (ns : List ℤ) → AreUnequal ns → (k : ℕ) (d : ℤ) → k + 1 < length ns → get_or ns k d ≡ get_or ns (k + 1) d → ⊥
unequal_at [] apart k d below same = absurd (omega (arith, below))
unequal_at (n ∷ []) apart k d below same = absurd (omega (arith, below))
unequal_at (n ∷ (m ∷ ns)) apart zero d below same = apart.0.0 same
unequal_at (n ∷ (m ∷ ns)) apart (suc k) d below same =
    unequal_at (m ∷ ns) apart.1 k d (omega arith) (subst (λ j. get_or (m ∷ ns) k d ≡ get_or (n ∷ (m ∷ ns)) j d) {x = suc k + 1} {y = suc (k + 1)} (omega arith) same)

-- sorted numbers, each of which comes once, rise from each to the next
pub rises_at : (ns : List ℤ) → IsSorted int_cmp ns → AreUnequal ns → (k : ℕ) (d : ℤ) → k + 1 < length ns → is_lt (int_cmp (get_or ns k d) (get_or ns (k + 1) d)) ≡ false → ⊥
rises_at ns sorted apart k d below not_below =
    let n = get_or ns k d in
    let m = get_or ns (k + 1) d in
    unequal_at ns apart k d below (exact_signed n m (level (int_cmp n m) (int_cmp m n) (int_cmp_total.antisymm m n) not_below (sorted k d (omega arith) below)))
  where
    level : (o u : Ordering) → u ≡ ordering_reverse o → is_lt o ≡ false → is_lt u ≡ false → o ≡ Equal
    level Less u e not_below not_above = absurd (false≢true (sym not_below))
    level Equal u e not_below not_above = refl
    level Greater u e not_below not_above = absurd (false≢true (sym not_above ∙ ap is_lt e))
