-- Tests of the elements of lists, and lists of which no two elements pass a test.
use Rattle.std.proofs.Common.{◌≡◌, Bool, true, false, cond, not, ◌||◌, List, [], ◌∷◌, ◌++◌, map, refl, sym, ap, ◌∙◌, ℕ, nat_eq, bytes_eq}
use Rattle.std.specs.Prelude.{flat_map}
use Rattle.std.specs.List.{list_any, filter}
use Rattle.std.proofs.lemmas.Bool.{false≢true, or_right, or_parts, eq-eqb}
use Rattle.std.proofs.lemmas.List.Folds.{list_any-append}
use Rattle.base_rows.specs.Changes.{are_apart}
pub use Rattle.std.specs.Cmp.{both_ways, first_so as left_of, second_so as right_of}
pub use Rattle.std.proofs.lemmas.Bool.{and_from as both, not-true as not_false}
use Rattle.std.proofs.lemmas.Slice.Eq.{bytes_eq-Decides}

-- ---- Tests

pub not_true : (b : Bool) → (b ≡ true → ⊥) → not b ≡ true
not_true true no_way = absurd (no_way refl)
not_true false no_way = refl

pub is_not : (b : Bool) → not b ≡ true → b ≡ true → ⊥
is_not true e f = false≢true e
is_not false e f = false≢true f

pub same_number : (n : ℕ) → nat_eq n n ≡ true
same_number n = eq-eqb n n refl

pub same_bytes : (x y : List ℕ) → x ≡ y → bytes_eq x y ≡ true
same_bytes x y e = (bytes_eq-Decides x y).1 e

-- ---- Some element passes a test

pub any_first : {A : Type 0} (p : A → Bool) (x : A) (xs : List A) → p x ≡ true → list_any p (x ∷ xs) ≡ true
any_first p x xs e = ap (λ b. b || list_any p xs) e

pub any_later : {A : Type 0} (p : A → Bool) (x : A) (xs : List A) → list_any p xs ≡ true → list_any p (x ∷ xs) ≡ true
any_later p x xs e = or_right (p x) (list_any p xs) e

-- by the first element, or by the others
pub any_by : {A : Type 0} {P : Type 0} (p : A → Bool) (x : A) (xs : List A) → (p x ≡ true → P) → (list_any p xs ≡ true → P) → list_any p (x ∷ xs) ≡ true → P
any_by {P = P} p x xs here later e = any_by_first (p x) refl
  where
    any_by_first : (b : Bool) → p x ≡ b → P
    any_by_first true is = here is
    any_by_first false is = later (sym (ap (λ c. c || list_any p xs) is) ∙ e)

pub any-flat_map : {A B : Type 0} (p : B → Bool) (f : A → List B) (xs : List A) → list_any p (flat_map f xs) ≡ list_any (λ x. list_any p (f x)) xs
any-flat_map p f [] = refl
any-flat_map p f (x ∷ xs) = list_any-append p (f x) (flat_map f xs) ∙ ap (λ b. list_any p (f x) || b) (any-flat_map p f xs)

pub any-map : {A B : Type 0} (p : B → Bool) (f : A → B) (xs : List A) → list_any p (map f xs) ≡ list_any (λ x. p (f x)) xs
any-map p f [] = refl
any-map p f (x ∷ xs) = ap (λ b. p (f x) || b) (any-map p f xs)

-- where the elements that pass one test pass another
pub any_more : {A : Type 0} (p q : A → Bool) (xs : List A) → ((x : A) → p x ≡ true → q x ≡ true) → list_any p xs ≡ true → list_any q xs ≡ true
any_more p q [] more e = e
any_more p q (x ∷ xs) more e = any_by p x xs (λ is. any_first q x xs (more x is)) (λ rest. any_later q x xs (any_more p q xs more rest)) e

-- neither the first nor one of the others
pub or_first : (b c : Bool) → (b || c) ≡ false → b ≡ false
or_first b c e = (or_parts b c e).0

pub or_second : (b c : Bool) → (b || c) ≡ false → c ≡ false
or_second b c e = (or_parts b c e).1

-- an element of two lists is one of the first or of the second
pub any_either : {A : Type 0} {P : Type 0} (p : A → Bool) (xs ys : List A) → (list_any p xs ≡ true → P) → (list_any p ys ≡ true → P) → list_any p (xs ++ ys) ≡ true → P
any_either p [] ys left right e = right e
any_either p (x ∷ xs) ys left right e = any_by p x (xs ++ ys) (λ is. left (any_first p x xs is)) (λ rest. any_either p xs ys (λ l. left (any_later p x xs l)) right rest) e

kept_first : {A : Type 0} (p q : A → Bool) (x : A) (xs : List A) → (list_any p (filter q xs) ≡ true → list_any p xs ≡ true) → (b : Bool) → list_any p (cond b (x ∷ filter q xs) (filter q xs)) ≡ true → list_any p (x ∷ xs) ≡ true
kept_first p q x xs rest true e = any_by p x (filter q xs) (any_first p x xs) (λ later. any_later p x xs (rest later)) e
kept_first p q x xs rest false e = any_later p x xs (rest e)

pub any_kept : {A : Type 0} (p q : A → Bool) (xs : List A) → list_any p (filter q xs) ≡ true → list_any p xs ≡ true
any_kept p q [] e = e
any_kept p q (x ∷ xs) e = kept_first p q x xs (any_kept p q xs) (q x) e

none_first : {A : Type 0} (p : A → Bool) (x : A) (xs : List A) → (list_any p (filter (λ y. not (p y)) xs) ≡ true → ⊥) → (b : Bool) → p x ≡ b → list_any p (cond (not b) (x ∷ filter (λ y. not (p y)) xs) (filter (λ y. not (p y)) xs)) ≡ true → ⊥
none_first p x xs rest true is e = rest e
none_first p x xs rest false is e = any_by p x (filter (λ y. not (p y)) xs) (λ here. false≢true (sym is ∙ here)) rest e

-- what passes the test isn't among those without it
pub any_without : {A : Type 0} (p : A → Bool) (xs : List A) → list_any p (filter (λ y. not (p y)) xs) ≡ true → ⊥
any_without p [] e = false≢true e
any_without p (x ∷ xs) e = none_first p x xs (any_without p xs) (p x) refl e

-- ---- No two elements pass a test

module _ {A : Type 0} (near : A → A → Bool) where
  pub apart-append : ((x : A) → near x x ≡ true) → (xs ys : List A) → are_apart near xs ≡ true → are_apart near ys ≡ true → ((x : A) → list_any (near x) xs ≡ true → list_any (near x) ys ≡ true → ⊥) → are_apart near (xs ++ ys) ≡ true
  apart-append itself [] ys of_xs of_ys cross = of_ys
  apart-append itself (x ∷ xs) ys of_xs of_ys cross = both (not (list_any (near x) (xs ++ ys))) (are_apart near (xs ++ ys))
      (not_true (list_any (near x) (xs ++ ys)) (any_either (near x) xs ys
      (is_not (list_any (near x) xs) (left_of (not (list_any (near x) xs)) (are_apart near xs) of_xs))
      (cross x (any_first (near x) x xs (itself x)))))
      (apart-append itself xs ys (right_of (not (list_any (near x) xs)) (are_apart near xs) of_xs) of_ys (λ y l r. cross y (any_later (near y) x xs l) r))

  kept_apart : (p : A → Bool) (x : A) (xs : List A) → not (list_any (near x) xs) ≡ true → are_apart near (filter p xs) ≡ true → (b : Bool) → are_apart near (cond b (x ∷ filter p xs) (filter p xs)) ≡ true
  kept_apart p x xs none rest true = both (not (list_any (near x) (filter p xs))) (are_apart near (filter p xs)) (not_true (list_any (near x) (filter p xs)) (λ e. is_not (list_any (near x) xs) none (any_kept (near x) p xs e))) rest
  kept_apart p x xs none rest false = rest

  pub apart-filter : (p : A → Bool) (xs : List A) → are_apart near xs ≡ true → are_apart near (filter p xs) ≡ true
  apart-filter p [] e = refl
  apart-filter p (x ∷ xs) e = kept_apart p x xs (left_of (not (list_any (near x) xs)) (are_apart near xs) e) (apart-filter p xs (right_of (not (list_any (near x) xs)) (are_apart near xs) e)) (p x)

  -- an image keeps apart what was, where near images come of near elements
  pub apart-map : {B : Type 0} (far : B → B → Bool) (f : B → A) → ((x y : B) → near (f x) (f y) ≡ true → far x y ≡ true) → (xs : List B) → are_apart far xs ≡ true → are_apart near (map f xs) ≡ true
  apart-map far f back [] e = refl
  apart-map far f back (x ∷ xs) e = both (not (list_any (near (f x)) (map f xs))) (are_apart near (map f xs))
      (not_true (list_any (near (f x)) (map f xs)) (λ found. is_not (list_any (far x) xs) (left_of (not (list_any (far x) xs)) (are_apart far xs) e) (any_back far f back x xs found)))
      (apart-map far f back xs (right_of (not (list_any (far x) xs)) (are_apart far xs) e))
    where
      any_back : {B : Type 0} (far : B → B → Bool) (f : B → A) → ((x y : B) → near (f x) (f y) ≡ true → far x y ≡ true) → (x : B) (ys : List B) → list_any (near (f x)) (map f ys) ≡ true → list_any (far x) ys ≡ true
      any_back far f back x [] found = found
      any_back far f back x (y ∷ ys) found = any_by (near (f x)) (f y) (map f ys) (λ is. any_first (far x) y ys (back x y is)) (λ rest. any_later (far x) y ys (any_back far f back x ys rest)) found
