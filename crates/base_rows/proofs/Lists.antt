-- What lists have in common, whatever their elements are.
use Rattle.std.proofs.Common.{◌≡◌, ℕ, suc, ◌+◌, ◌≤◌, Bool, true, false, cond, ◌&&◌, List, [], ◌∷◌, ◌++◌, length, map, refl, arith}
use Rattle.std.specs.List.{list_any, filter, AllByRecursion}

-- ---- What holds of each element

pub all-append : {A : Type 0} (P : A → Type 0) (xs ys : List A) → AllByRecursion P xs → AllByRecursion P ys → AllByRecursion P (xs ++ ys)
all-append P [] ys left right = right
all-append P (x ∷ xs) ys left right = (left.0, all-append P xs ys left.1 right)

pub all_push : {A : Type 0} (P : A → Type 0) (xs : List A) (x : A) → AllByRecursion P xs → P x → AllByRecursion P (xs ++ x ∷ [])
all_push P [] x all new = (new, tt)
all_push P (y ∷ ys) x all new = (all.0, all_push P ys x all.1 new)

-- of each image, where it holds of what each element becomes
pub all-map : {A B : Type 0} (P : B → Type 0) (f : A → B) (xs : List A) → AllByRecursion (λ x. P (f x)) xs → AllByRecursion P (map f xs)
all-map P f [] all = tt
all-map P f (x ∷ xs) all = (all.0, all-map P f xs all.1)

-- ---- Lengths

-- with or without one more in front
pub length-cond : {A : Type 0} (b : Bool) (x : A) (l : List A) → length (cond b (x ∷ l) l) ≡ cond b 1 0 + length l
length-cond true x l = omega arith
length-cond false x l = omega arith

kept_few : {A : Type 0} (x : A) (n : ℕ) (xs : List A) (b : Bool) → length xs ≤ n → length (cond b (x ∷ xs) xs) ≤ suc n
kept_few x n xs true few = omega arith
kept_few x n xs false few = omega arith

-- a filter keeps no more than there are
pub filter_few : {A : Type 0} (test : A → Bool) (xs : List A) → length (filter test xs) ≤ length xs
filter_few test [] = omega arith
filter_few test (x ∷ xs) = kept_few x (length xs) (filter test xs) (test x) (filter_few test xs)

-- ---- Tests

-- the one conjunct doesn't speak of the element
pub any_const : {A : Type 0} (b : Bool) (q : A → Bool) (xs : List A) → list_any (λ x. b && q x) xs ≡ (b && list_any q xs)
any_const true q xs = refl
any_const false q [] = refl
any_const false q (x ∷ xs) = any_const false q xs
