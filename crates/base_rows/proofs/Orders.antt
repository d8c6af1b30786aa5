-- How orders are put one after the other, and how sort keys stand to one another part by part.
use Rattle.std.proofs.Common.{◌≡◌, ℕ, List, [], ◌∷◌, ◌++◌, length, refl, sym, ap, ◌∙◌, arith, zero, suc, ◌<◌, drop, slice_index_or, subst, ◌+◌}
use Rattle.std.specs.Ordering.{nat_cmp, ordering_then, is_eq}
use Rattle.std.specs.declared.cmp.Ordering.{Ordering}
use Rattle.std.specs.declared.cmp.Ordering.TheVariants.{Less, Equal, Greater}
use Rattle.std.proofs.lemmas.Bool.{eqb-true}
use Rattle.std.specs.Cmp.{unsigned_ties}
use Rattle.std.proofs.lemmas.Cmp.{nat_cmp_total, tied_itself}
use Rattle.base_rows.specs.Sortable.{sort_key_cmp, prefix_cmp}

-- ---- One order after the other

pub then_equal : (o : Ordering) → ordering_then o Equal ≡ o
then_equal Less = refl
then_equal Equal = refl
then_equal Greater = refl

pub then_assoc : (o p q : Ordering) → ordering_then (ordering_then o p) q ≡ ordering_then o (ordering_then p q)
then_assoc Less p q = refl
then_assoc Equal p q = refl
then_assoc Greater p q = refl

-- ---- Sort keys part by part

-- sort keys of one length decide before what follows them
pub sort_key_cmp-front : (xs ys us vs : List ℕ) → length xs ≡ length ys → sort_key_cmp (xs ++ us) (ys ++ vs) ≡ ordering_then (sort_key_cmp xs ys) (sort_key_cmp us vs)
sort_key_cmp-front [] [] us vs long = refl
sort_key_cmp-front [] (y ∷ ys) us vs long = absurd (omega arith)
sort_key_cmp-front (x ∷ xs) [] us vs long = absurd (omega arith)
sort_key_cmp-front (x ∷ xs) (y ∷ ys) us vs long = ap (ordering_then (nat_cmp x y)) (sort_key_cmp-front xs ys us vs (omega arith)) ∙ sym (then_assoc (nat_cmp x y) (sort_key_cmp xs ys) (sort_key_cmp us vs))

-- a beginning stands to a sort key as it does to that sort key's own beginning
pub prefix_cmp-front : (xs ys vs : List ℕ) → length xs ≡ length ys → prefix_cmp xs (ys ++ vs) ≡ sort_key_cmp xs ys
prefix_cmp-front [] [] vs long = refl
prefix_cmp-front [] (y ∷ ys) vs long = absurd (omega arith)
prefix_cmp-front (x ∷ xs) [] vs long = absurd (omega arith)
prefix_cmp-front (x ∷ xs) (y ∷ ys) vs long = ap (ordering_then (nat_cmp x y)) (prefix_cmp-front xs ys vs (omega arith))

pub one_number : (m n : ℕ) → sort_key_cmp (m ∷ []) (n ∷ []) ≡ nat_cmp m n
one_number m n = then_equal (nat_cmp m n)

-- ---- Sort keys from a number on

pub decided : (o r : Ordering) → (o ≡ Equal → ⊥) → o ≡ ordering_then o r
decided Less r apart = refl
decided Equal r apart = absurd (apart refl)
decided Greater r apart = refl

pub equal_numbers : (x y : ℕ) → nat_cmp x y ≡ Equal → x ≡ y
equal_numbers x y e = eqb-true x y (unsigned_ties x y ∙ ap is_eq e)

pub equal_first : (n : ℕ) (xs ys : List ℕ) → n < length xs → n < length ys → slice_index_or xs n 0 ≡ slice_index_or ys n 0 → sort_key_cmp (drop n xs) (drop n ys) ≡ sort_key_cmp (drop (suc n) xs) (drop (suc n) ys)
equal_first n [] ys p q e = absurd (omega (arith, p))
equal_first n (x ∷ xs) [] p q e = absurd (omega (arith, q))
equal_first zero (x ∷ xs) (y ∷ ys) p q e = ap (λ o. ordering_then o (sort_key_cmp xs ys)) (subst (λ z. nat_cmp x z ≡ Equal) e (tied_itself nat_cmp_total x))
equal_first (suc n) (x ∷ xs) (y ∷ ys) p q e = equal_first n xs ys (omega (arith, p)) (omega (arith, q)) e

-- where the first numbers left are the same, the others decide
pub alike : (n : ℕ) (xs ys : List ℕ) → n < length xs → n < length ys → slice_index_or xs n 0 ≡ slice_index_or ys n 0 → sort_key_cmp (drop n xs) (drop n ys) ≡ sort_key_cmp (drop (n + 1) xs) (drop (n + 1) ys)
alike n xs ys p q e =
    let one_on : suc n ≡ n + 1 = omega arith
    in subst (λ m. sort_key_cmp (drop n xs) (drop n ys) ≡ sort_key_cmp (drop m xs) (drop m ys)) one_on (equal_first n xs ys p q e)

-- where they differ, they decide
pub apart : (n : ℕ) (xs ys : List ℕ) → n < length xs → n < length ys → (slice_index_or xs n 0 ≡ slice_index_or ys n 0 → ⊥) → nat_cmp (slice_index_or xs n 0) (slice_index_or ys n 0) ≡ sort_key_cmp (drop n xs) (drop n ys)
apart n [] ys p q e = absurd (omega (arith, p))
apart n (x ∷ xs) [] p q e = absurd (omega (arith, q))
apart zero (x ∷ xs) (y ∷ ys) p q e = decided (nat_cmp x y) (sort_key_cmp xs ys) (λ same. e (equal_numbers x y same))
apart (suc n) (x ∷ xs) (y ∷ ys) p q e = apart n xs ys (omega (arith, p)) (omega (arith, q)) e

-- behind the last numbers nothing differs
pub behind : (n : ℕ) (xs ys : List ℕ) → length xs ≡ n → length ys ≡ n → sort_key_cmp (drop n xs) (drop n ys) ≡ Equal
behind zero [] [] p q = refl
behind zero [] (y ∷ ys) p q = absurd (omega (arith, q))
behind zero (x ∷ xs) ys p q = absurd (omega (arith, p))
behind (suc n) [] ys p q = absurd (omega (arith, p))
behind (suc n) (x ∷ xs) [] p q = absurd (omega (arith, q))
behind (suc n) (x ∷ xs) (y ∷ ys) p q = behind n xs ys (omega (arith, p)) (omega (arith, q))
