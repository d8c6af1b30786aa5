-- Names that were sorted are the names in order: of names as often as they are there, one list alone is in order.
use Rattle.std.proofs.Common.{◌≡◌, ℕ, suc, ◌+◌, ◌<◌, ◌≤◌, Bool, true, false, if◌then◌else◌, List, [], ◌∷◌, length, get_or, refl, sym, subst, ap, ap₂, ◌∙◌, arith, sum_by, IsPermutation, IsSorted, IsSortedBy}
use Rattle.std.specs.declared.cmp.Ordering.{Ordering}
use Rattle.std.specs.declared.cmp.Ordering.TheVariants.{Less, Equal, Greater}
use Rattle.std.specs.Cmp.{IsStrictWeakOrder}
use Rattle.std.specs.Cmp.Lexicographic.{nat_list_cmp_total}
use Rattle.std.specs.Fn.{Called, ComparesAs}
use Rattle.std.specs.Ordering.{is_lt, ordering_reverse}
use Rattle.std.proofs.lemmas.Fn.{always_returns_same}
use Rattle.std.proofs.lemmas.List.Sorted.{ranks_by, sorted_far, sum_by-IsPermutation}
use Rattle.std.proofs.lemmas.List.Sums.{sum_by-cons}
use Rattle.base_rows.specs.Sortable.{sort_key_cmp, same_sort_key}
use Rattle.base_rows.proofs.SortableLaws.{sort_key_cmp_exact, sort_key_cmp_itself, same_sort_key_itself, same_sort_key_exact}
use Rattle.run_changes.specs.Import.Order.{in_order}
use denote.Param.Members.{Mut}
use denote.Ref.{Bor}
use Rattle.run_changes.proofs.Parts.{with_name}

abbrev is_before : List ℕ → List ℕ → Bool
is_before x y = is_lt (sort_key_cmp x y)

order : IsStrictWeakOrder is_before
order = ranks_by nat_list_cmp_total (λ x. x)

-- ---- A list in order

-- no name of the list is before this one
abbrev IsLeast : List ℕ → List (List ℕ) → Type 0
IsLeast x [] = Unit {0}
IsLeast x (y ∷ ys) = (is_before y x ≡ false) × IsLeast x ys

abbrev Ascend : List (List ℕ) → Type 0
Ascend [] = Unit {0}
Ascend (x ∷ xs) = IsLeast x xs × Ascend xs

least_of : (x : List ℕ) (ys : List (List ℕ)) → ((k : ℕ) → k < length ys → is_before (get_or ys k x) x ≡ false) → IsLeast x ys
least_of x [] none = tt
least_of x (y ∷ ys) none = (none 0 (omega arith), least_of x ys (λ k within. none (suc k) (omega arith)))

ascend_of : (xs : List (List ℕ)) → ((i j : ℕ) (d : List ℕ) → i ≤ j → j < length xs → is_before (get_or xs j d) (get_or xs i d) ≡ false) → Ascend xs
ascend_of [] far = tt
ascend_of (x ∷ xs) far =
    (least_of x xs (λ k within. far 0 (suc k) x (omega arith) (omega arith)), ascend_of xs (λ i j d le within. far (suc i) (suc j) d (omega arith) (omega arith)))

-- ---- How often a name is there

abbrev tally : List ℕ → List ℕ → ℕ
tally z name = if same_sort_key name z then 1 else 0

abbrev number_of : List ℕ → List (List ℕ) → ℕ
number_of z [] = 0
number_of z (name ∷ names) = tally z name + number_of z names

number_is_sum : (z : List ℕ) (names : List (List ℕ)) → sum_by (tally z) names ≡ number_of z names
number_is_sum z [] = refl
number_is_sum z (name ∷ names) = sum_by-cons (tally z) name names ∙ ap (λ (n : ℕ). tally z name + n) (number_is_sum z names)

tally_itself : (x : List ℕ) → tally x x ≡ 1
tally_itself x = ap (λ (same : Bool). if same then 1 else 0) (same_sort_key_itself x)

tally_other : (x y z : List ℕ) → is_before x y ≡ true → is_before z y ≡ false → (same : Bool) → same_sort_key z x ≡ same → tally x z ≡ 0
tally_other x y z before least true e =
    let is : z ≡ x = same_sort_key_exact z x e in
    let never : is_before x y ≡ false = subst (λ (w : List ℕ). is_before w y ≡ false) is least in
    absurd (cc (before, never))
tally_other x y z before least false e = ap (λ (same : Bool). if same then 1 else 0) e

none_before : (x y : List ℕ) (names : List (List ℕ)) → is_before x y ≡ true → IsLeast y names → number_of x names ≡ 0
none_before x y [] before least = refl
none_before x y (z ∷ zs) before least = omega (arith, tally_other x y z before least.0 (same_sort_key z x) refl, none_before x y zs before least.1)

-- a name that is before all of a list isn't in it
is_missing : (x y : List ℕ) (xs ys : List (List ℕ)) → IsLeast y ys → number_of x (x ∷ xs) ≡ number_of x (y ∷ ys) → is_before x y ≡ true → ⊥
is_missing x y xs ys least same before =
    let none : number_of x (y ∷ ys) ≡ 0 = none_before x y (y ∷ ys) before (ap is_lt (sort_key_cmp_itself y), least) in
    absurd (omega (arith, same, none, tally_itself x))

same_first : (x y : List ℕ) (xs ys : List (List ℕ)) → IsLeast x xs → IsLeast y ys → ((z : List ℕ) → number_of z (x ∷ xs) ≡ number_of z (y ∷ ys)) → (o : Ordering) → sort_key_cmp x y ≡ o → x ≡ y
same_first x y xs ys low high same Less e = absurd (is_missing x y xs ys high (same x) (ap is_lt e))
same_first x y xs ys low high same Equal e = sort_key_cmp_exact x y e
same_first x y xs ys low high same Greater e =
    absurd (is_missing y x ys xs low (sym (same y)) (ap is_lt (nat_list_cmp_total.antisymm y x ∙ ap ordering_reverse e)))

same_lists : (xs ys : List (List ℕ)) → Ascend xs → Ascend ys → ((z : List ℕ) → number_of z xs ≡ number_of z ys) → xs ≡ ys
same_lists [] [] up also same = refl
same_lists [] (y ∷ ys) up also same = absurd (omega (arith, same y, tally_itself y))
same_lists (x ∷ xs) [] up also same = absurd (omega (arith, same x, tally_itself x))
same_lists (x ∷ xs) (y ∷ ys) up also same =
    let e : x ≡ y = same_first x y xs ys up.0 also.0 same (sort_key_cmp x y) refl in
    ap₂ (λ (z : List ℕ) (zs : List (List ℕ)). z ∷ zs) e (same_lists xs ys up.1 also.1 (λ z. omega (arith, same z, ap (tally z) e)))

-- ---- The names in order

number_with_name : (z name : List ℕ) (names : List (List ℕ)) → number_of z (with_name name names) ≡ tally z name + number_of z names
number_with_name z name [] = refl
number_with_name z name (y ∷ ys) = by (is_before y name) (number_with_name z name ys)
  where
    by : (before : Bool) → number_of z (with_name name ys) ≡ tally z name + number_of z ys → number_of z (if before then y ∷ with_name name ys else name ∷ y ∷ ys) ≡ tally z name + (tally z y + number_of z ys)
    by true rest = omega (arith, rest)
    by false rest = refl

least_with_name : (x name : List ℕ) (names : List (List ℕ)) → is_before name x ≡ false → IsLeast x names → IsLeast x (with_name name names)
least_with_name x name [] low least = (low, tt)
least_with_name x name (y ∷ ys) low least = by (is_before y name) (least_with_name x name ys low least.1)
  where
    by : (before : Bool) → IsLeast x (with_name name ys) → IsLeast x (if before then y ∷ with_name name ys else name ∷ y ∷ ys)
    by true rest = (least.0, rest)
    by false rest = (low, least)

least_further : (x y : List ℕ) (zs : List (List ℕ)) → is_before y x ≡ false → IsLeast y zs → IsLeast x zs
least_further x y [] low least = tt
least_further x y (z ∷ zs) low least = (order.chain z y x least.0 low, least_further x y zs low least.1)

ascend_with_name : (name : List ℕ) (names : List (List ℕ)) → Ascend names → Ascend (with_name name names)
ascend_with_name name [] up = (tt, tt)
ascend_with_name name (y ∷ ys) up = by (is_before y name) refl (ascend_with_name name ys up.1)
  where
    by : (before : Bool) → is_before y name ≡ before → Ascend (with_name name ys) → Ascend (if before then y ∷ with_name name ys else name ∷ y ∷ ys)
    by true e rest = (least_with_name y name ys (order.one_way y name e) up.0, rest)
    by false e rest = ((e, least_further name y ys e up.0), up)

ascend_in_order : (names : List (List ℕ)) → Ascend (in_order names)
unfolding in_order
ascend_in_order [] = tt
ascend_in_order (name ∷ names) = ascend_with_name name (in_order names) (ascend_in_order names)

number_in_order : (z : List ℕ) (names : List (List ℕ)) → number_of z (in_order names) ≡ number_of z names
unfolding in_order
number_in_order z [] = refl
number_in_order z (name ∷ names) = number_with_name z name (in_order names) ∙ ap (λ (n : ℕ). tally z name + n) (number_in_order z names)

sorted_is : (listed names : List (List ℕ)) → IsPermutation listed names → IsSorted sort_key_cmp names → names ≡ in_order listed
sorted_is listed names all sorted =
    same_lists names (in_order listed) (ascend_of names (sorted_far is_before order names sorted)) (ascend_in_order listed)
    (λ z. sym (number_is_sum z names) ∙ sum_by-IsPermutation (tally z) listed names all ∙ number_is_sum z listed ∙ sym (number_in_order z listed))

-- what a sort ensures whose closure compares names by their octets
pub sorted_by_octets : {F : Type 0} {g : Mut F (Bor (List ℕ) × (Bor (List ℕ) × Unit {0})) Ordering} {f : F} (listed names : List (List ℕ)) → IsPermutation listed names
    → ((lt : List ℕ → List ℕ → Bool) → IsStrictWeakOrder lt → ComparesAs g lt f → IsSortedBy lt names)
    → ((a : Bor (List ℕ) × (Bor (List ℕ) × Unit {0})) (r : Ordering) (f' : F) → Called g f a r f' → (r ≡ sort_key_cmp a.0.now a.1.0.now) × (f' ≡ f))
    → names ≡ in_order listed
sorted_by_octets {g = g} {f = f} listed names all up answers =
    sorted_is listed names all
    (up is_before order (always_returns_same g (λ a r. is_lt r ≡ is_before a.0.now a.1.0.now) f (λ a r f' k. (ap is_lt (answers a r f' k).0, (answers a r f' k).1))))
