-- The order in which the rows of the selection come.
use Rattle.std.proofs.Common.{◌≡◌, ℕ, zero, suc, ◌+◌, ◌<◌, List, [], ◌∷◌, map, slice_index_or, false, refl, sym, subst}
use Rattle.std.specs.List.{AllByRecursion}
use Rattle.std.specs.List.Sorted.{IsPermutation, IsSorted}
use Rattle.std.specs.Ordering.{is_lt}
use Rattle.std.specs.declared.cmp.Ordering.{Ordering}
use Rattle.std.proofs.lemmas.List.Elements.{All-from_recursion, recursion_from_All}
use Rattle.std.proofs.lemmas.List.Sorted.{All-permutation}
use Rattle.std.proofs.lemmas.List.{length-map}
use Rattle.sqlite_value.specs.Order.{Row, column}
use Rattle.sqlite.specs.Query.{output, output_cmp, Output, Query}
use Rattle.keep_sqlite.specs.Selections.{shown_cmp, id_cmp}
use Rattle.keep_sqlite.proofs.Texts.{select_query, ids_query}

index_map : {X Y : Type 0} (f : X → Y) (xs : List X) (k : ℕ) (d : X) → slice_index_or (map f xs) k (f d) ≡ f (slice_index_or xs k d)
index_map f [] k d = refl
index_map f (x ∷ xs) zero d = refl
index_map f (x ∷ xs) (suc k) d = index_map f xs k d

sorted_unmap : {X Y : Type 0} (f : X → Y) (cmp : Y → Y → Ordering) (xs : List X) → IsSorted cmp (map f xs) → IsSorted (λ a b. cmp (f a) (f b)) xs
sorted_unmap f cmp xs sorted k d low below =
    let there = sorted k (f d) low (subst (λ n. k + 1 < n) (sym (length-map xs f)) below) in
    let next = subst (λ y. is_lt (cmp y (slice_index_or (map f xs) k (f d))) ≡ false) (index_map f xs (k + 1) d) there in
    subst (λ y. is_lt (cmp (f (slice_index_or xs (k + 1) d)) y) ≡ false) (index_map f xs k d) next

-- what a row is sorted by stands in it
module _ (keyed : Row → Output) where
  abbrev IsKeyed : Output → Type 0
  IsKeyed o = o ≡ keyed o.1

  are_keyed : (outputs : List Output) → AllByRecursion IsKeyed outputs → outputs ≡ map keyed (map (λ (o : Output). o.1) outputs)
  are_keyed [] all = refl
  are_keyed (o ∷ os) all = λ i. all.0 i ∷ are_keyed os all.1 i

  sorted_shown : (q : Query) (table : List Row) (kept ordered : List Output) (rows : List Row) → AllByRecursion IsKeyed (map (λ r. output q ([] ∷ r ∷ [])) table) → kept ≡ map (λ r. output q ([] ∷ r ∷ [])) table → IsPermutation kept ordered
      → IsSorted (output_cmp q) ordered → rows ≡ map (λ (o : Output). o.1) ordered → IsSorted (λ a b. output_cmp q (keyed a) (keyed b)) rows
  sorted_shown q table kept ordered rows keys front same sorted back =
      let all = subst (AllByRecursion IsKeyed) (sym front) keys in
      let each = recursion_from_All IsKeyed ordered (All-permutation IsKeyed kept ordered same (All-from_recursion IsKeyed kept all)) in
      let seen = subst (IsSorted (output_cmp q)) (are_keyed ordered each) sorted in
      sorted_unmap keyed (output_cmp q) rows (subst (λ rs. IsSorted (output_cmp q) (map keyed rs)) (sym back) seen)

item_keyed : Row → Output
item_keyed row = (column row 0 ∷ column row 1 ∷ [], row)

items_keyed : (rows : List Row) → AllByRecursion (IsKeyed item_keyed) (map (λ r. output select_query ([] ∷ r ∷ [])) rows)
unfolding item_keyed
items_keyed [] = tt
items_keyed (r ∷ rs) = (refl, items_keyed rs)

pub in_order : (table : List Row) (kept ordered : List Output) (rows : List Row) → kept ≡ map (λ r. output select_query ([] ∷ r ∷ [])) table → IsPermutation kept ordered
    → IsSorted (output_cmp select_query) ordered → rows ≡ map (λ (o : Output). o.1) ordered → IsSorted shown_cmp rows
unfolding item_keyed
in_order table kept ordered rows front same sorted back = sorted_shown item_keyed select_query table kept ordered rows (items_keyed table) front same sorted back

id_keyed : Row → Output
id_keyed row = (column row 0 ∷ [], row)

ids_keyed : (rows : List Row) → AllByRecursion (IsKeyed id_keyed) (map (λ r. output ids_query ([] ∷ r ∷ [])) rows)
unfolding id_keyed
ids_keyed [] = tt
ids_keyed (r ∷ rs) = (refl, ids_keyed rs)

pub ids_in_order : (table : List Row) (kept ordered : List Output) (rows : List Row) → kept ≡ map (λ r. output ids_query ([] ∷ r ∷ [])) table → IsPermutation kept ordered
    → IsSorted (output_cmp ids_query) ordered → rows ≡ map (λ (o : Output). o.1) ordered → IsSorted id_cmp rows
unfolding id_keyed
ids_in_order table kept ordered rows front same sorted back = sorted_shown id_keyed ids_query table kept ordered rows (ids_keyed table) front same sorted back
