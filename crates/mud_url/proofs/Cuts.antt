-- A list that is cut at its first element that passes a test, where it is made of two lists.
use Rattle.std.proofs.Common.{◌≡◌, ℕ, suc, ◌+◌, Bool, true, false, not, cond, List, [], ◌∷◌, ◌++◌, length, take, drop, position, ltb, Some, None, refl, sym, ap, ◌∙◌, arith}
use Rattle.std.specs.List.{position_or_len, before_first, after_first, list_any}
use Rattle.std.proofs.lemmas.Bool.{or_parts, cond-false, le-ltb}
use Rattle.std.proofs.lemmas.List.{take-append-drop, drop-drop, drop_at, drop_all, append-nil}
use Rattle.std.proofs.lemmas.List.Folds.{list_any-append}
use Rattle.std.proofs.lemmas.List.Sums.{take_while-cons}

-- whether a list is empty or its first element passes
unfoldable pub begins : (ℕ → Bool) → List ℕ → Bool
begins p [] = true
begins p (c ∷ more) = p c

begins-nil : (p : ℕ → Bool) → begins p [] ≡ true
unfolding begins
begins-nil p = refl

before_first-cons_yes : (p : ℕ → Bool) (x : ℕ) (xs : List ℕ) → p x ≡ true → before_first p (x ∷ xs) ≡ []
before_first-cons_yes p x xs e = take_while-cons (λ c. not (p c)) x xs ∙ ap (λ t. cond (not t) (x ∷ before_first p xs) []) e

before_first-cons_no : (p : ℕ → Bool) (x : ℕ) (xs : List ℕ) → p x ≡ false → before_first p (x ∷ xs) ≡ x ∷ before_first p xs
before_first-cons_no p x xs e = take_while-cons (λ c. not (p c)) x xs ∙ ap (λ t. cond (not t) (x ∷ before_first p xs) []) e

pub before_first-append : (p : ℕ → Bool) (xs ys : List ℕ) → list_any p xs ≡ false → begins p ys ≡ true → before_first p (xs ++ ys) ≡ xs
unfolding begins
before_first-append p [] [] none b = refl
before_first-append p [] (y ∷ ys) none b = before_first-cons_yes p y ys b
before_first-append p (x ∷ xs) ys none b =
    before_first-cons_no p x (xs ++ ys) (or_parts _ _ none).0 ∙ ap (λ t. x ∷ t) (before_first-append p xs ys (or_parts _ _ none).1 b)

position_at : (p : ℕ → Bool) (xs ys : List ℕ) → list_any p xs ≡ false → begins p ys ≡ true → position_or_len p (xs ++ ys) ≡ length xs
unfolding begins
position_at p [] [] none b = refl
position_at p [] (y ∷ ys) none b = rw b
position_at p (x ∷ xs) ys none b =
    let first = (or_parts (p x) (list_any p xs) none).0 in
    let later = position_at p xs ys (or_parts (p x) (list_any p xs) none).1 b in
    rw (first, later) (omega arith)

pub after_first-append : (p : ℕ → Bool) (xs : List ℕ) (c : ℕ) (ys : List ℕ) → list_any p xs ≡ false → p c ≡ true → after_first p (xs ++ c ∷ ys) ≡ ys
unfolding begins
after_first-append p xs c ys none e =
    ap (λ n. drop (n + 1) (xs ++ c ∷ ys)) (position_at p xs (c ∷ ys) none e)
    ∙ sym (drop-drop 1 (length xs) (xs ++ c ∷ ys))
    ∙ ap (λ l. drop 1 l) (drop_at xs (c ∷ ys) (length xs) refl)

position_past : (p : ℕ → Bool) (xs : List ℕ) → list_any p xs ≡ false → position_or_len p xs ≡ length xs
position_past p xs none = ap (position_or_len p) (sym (append-nil xs)) ∙ position_at p xs [] none (begins-nil p)

pub position-none : (p : ℕ → Bool) (xs : List ℕ) → list_any p xs ≡ false → position p xs ≡ None
position-none p xs none = cond-false (ltb (position_or_len p xs) (length xs)) (Some (position_or_len p xs)) None (le-ltb _ _ (let at = position_past p xs none in omega (arith, at)))

pub after_first-none : (p : ℕ → Bool) (xs : List ℕ) → list_any p xs ≡ false → after_first p xs ≡ []
after_first-none p xs none = drop_all (position_or_len p xs + 1) xs (let at = position_past p xs none in omega (arith, at))

pub list_any-take : (q : ℕ → Bool) (n : ℕ) (xs : List ℕ) → list_any q xs ≡ false → list_any q (take n xs) ≡ false
list_any-take q n xs none = (or_parts _ _ (sym (list_any-append q (take n xs) (drop n xs)) ∙ ap (list_any q) (take-append-drop n xs) ∙ none)).0

pub list_any-drop : (q : ℕ → Bool) (n : ℕ) (xs : List ℕ) → list_any q xs ≡ false → list_any q (drop n xs) ≡ false
list_any-drop q n xs none = (or_parts _ _ (sym (list_any-append q (take n xs) (drop n xs)) ∙ ap (list_any q) (take-append-drop n xs) ∙ none)).1

pub list_any-before_first : (p : ℕ → Bool) (xs : List ℕ) → list_any p (before_first p xs) ≡ false
list_any-before_first p [] = refl
list_any-before_first p (x ∷ xs) = by (list_any-before_first p xs) (p x) refl
  where
    by : list_any p (before_first p xs) ≡ false → (t : Bool) → p x ≡ t → list_any p (before_first p (x ∷ xs)) ≡ false
    by later true e = rw (before_first-cons_yes p x xs e)
    by later false e = rw (before_first-cons_no p x xs e, e) later

-- what stands from the first element on that passes
pub begins-rest : (p : ℕ → Bool) (xs : List ℕ) → begins p (drop (position_or_len p xs) xs) ≡ true
unfolding begins
begins-rest p [] = refl
begins-rest p (x ∷ xs) = by (begins-rest p xs) (p x) refl
  where
    by : begins p (drop (position_or_len p xs) xs) ≡ true → (t : Bool) → p x ≡ t → begins p (drop (position_or_len p (x ∷ xs)) (x ∷ xs)) ≡ true
    by later true e = rw e e
    by later false e = let next : 1 + position_or_len p xs ≡ suc (position_or_len p xs) = omega arith in rw (e, next) later
