-- Where a binding stands among others, and those that stand nowhere among them.
use Rattle.std.proofs.Common.{◌≡◌, ℕ, suc, ◌+◌, ◌<◌, Bool, true, false, cond, not, ◌&&◌, ◌||◌, List, [], ◌∷◌, ◌++◌, length, map, take, drop, get_or, Option, Some, None, ltb, refl, sym, ap, ◌∙◌, arith}
use Rattle.std.specs.Prelude.{is_some, position}
use Rattle.std.specs.List.{list_any, filter, prefix_len}
use Rattle.std.proofs.lemmas.Bool.Decides.{nat_tests}
use Rattle.std.proofs.lemmas.List.{take_more, map-append, append-nil, take-append-drop}
use Rattle.std.proofs.lemmas.List.Elements.{filter-append}
use Rattle.std.proofs.lemmas.List.Folds.{list_any-append}
use Rattle.std.proofs.Math.Bool.{or-false, or-true}
use Rattle.acl_model.specs.declared.binding.Binding.{Binding}
use Rattle.acl_model.specs.Changes.{same_binding, has_binding, those_not_in}
use Rattle.table_laws.specs.declared.lent.LentBinding.{LentBinding}
use Rattle.table_laws.specs.Lent.{lent_binding, is_lent}

-- the tests of a binding, the dear one last
pub tests_in_order : (k a u : Bool) → ((k && a) && u) ≡ ((a && u) && k)
tests_in_order true true true = refl
tests_in_order true true false = refl
tests_in_order true false u = refl
tests_in_order false true true = refl
tests_in_order false true false = refl
tests_in_order false false u = refl

-- ---- Where the first element stands that passes a test

below-step : (b : Bool) (n m : ℕ) (r : Bool) → ltb n m ≡ r → ltb (cond (not b) (1 + n) 0) (suc m) ≡ (b || r)
below-step true n m r e = grind (arith, nat_tests)
below-step false n m r e = grind (arith, nat_tests)

below : {A : Type 0} (p : A → Bool) (xs : List A) → ltb (prefix_len (λ x. not (p x)) xs) (length xs) ≡ list_any p xs
below p [] = refl
below p (x ∷ xs) = below-step (p x) (prefix_len (λ x. not (p x)) xs) (length xs) (list_any p xs) (below p xs)

is_some-cond : (b : Bool) (n : ℕ) → is_some (cond b (Some n) None) ≡ b
is_some-cond true n = refl
is_some-cond false n = refl

-- some element passes it exactly where one stands
pub is_some-position : {A : Type 0} (p : A → Bool) (xs : List A) → is_some (position p xs) ≡ list_any p xs
is_some-position p xs = is_some-cond (ltb (prefix_len (λ x. not (p x)) xs) (length xs)) (prefix_len (λ x. not (p x)) xs) ∙ below p xs

-- ---- Among lent bindings

any_lent : (b : LentBinding) (others : List LentBinding) → list_any (same_binding (lent_binding b)) (map lent_binding others) ≡ list_any (is_lent b) others
unfolding is_lent
any_lent b [] = refl
any_lent b (x ∷ xs) = ap (λ r. same_binding (lent_binding b) (lent_binding x) || r) (any_lent b xs)

pub has_lent : (b : LentBinding) (others : List LentBinding) → has_binding (lent_binding b) (map lent_binding others) ≡ list_any (is_lent b) others
unfolding has_binding
has_lent b others = any_lent b others

-- one of two parts has it
pub has_in_parts : (b : LentBinding) (before behind : List LentBinding)
    → has_binding (lent_binding b) (map lent_binding (before ++ behind)) ≡ (is_some (position (is_lent b) before) || is_some (position (is_lent b) behind))
has_in_parts b before behind =
    has_lent b (before ++ behind)
    ∙ list_any-append (is_lent b) before behind
    ∙ (λ i. sym (is_some-position (is_lent b) before) i || sym (is_some-position (is_lent b) behind) i)

has_apart : (b : LentBinding) (others : List LentBinding) (n : ℕ)
    → has_binding (lent_binding b) (map lent_binding others) ≡ (is_some (position (is_lent b) (take n others)) || is_some (position (is_lent b) (drop n others)))
has_apart b others n =
    ap (λ xs. has_binding (lent_binding b) (map lent_binding xs)) (sym (take-append-drop n others)) ∙ has_in_parts b (take n others) (drop n others)

-- it stands from the index on
pub found_behind : (b : LentBinding) (others : List LentBinding) (n : ℕ) (behind : Option ℕ) (index : ℕ) → behind ≡ position (is_lent b) (drop n others) → behind ≡ Some index
    → has_binding (lent_binding b) (map lent_binding others) ≡ true
found_behind b others n behind index e found =
    has_apart b others n
    ∙ ap (λ (o : Option ℕ). is_some (position (is_lent b) (take n others)) || is_some o) (sym e ∙ found)
    ∙ or-true (is_some (position (is_lent b) (take n others)))

-- or it stands only before the index
pub found_before : (b : LentBinding) (others : List LentBinding) (n : ℕ) (before behind : Option ℕ) → behind ≡ position (is_lent b) (drop n others) → behind ≡ None → before ≡ position (is_lent b) (take n others)
    → has_binding (lent_binding b) (map lent_binding others) ≡ is_some before
found_before b others n before behind e none f =
    has_apart b others n
    ∙ ap (λ (o : Option ℕ). is_some (position (is_lent b) (take n others)) || is_some o) (sym e ∙ none)
    ∙ or-false (is_some (position (is_lent b) (take n others)))
    ∙ ap is_some (sym f)

-- ---- Those that are left, one after the other

left_more : (others : List Binding) (xs : List LentBinding) (i : ℕ) (x : LentBinding) → i < length xs → x ≡ get_or xs i x
    → those_not_in others (map lent_binding (take (i + 1) xs)) ≡ those_not_in others (map lent_binding (take i xs)) ++ cond (not (has_binding (lent_binding x) others)) (lent_binding x ∷ []) []
unfolding those_not_in
left_more others xs i x inside is =
    let keeps = λ (b : Binding). not (has_binding b others) in
    ap (λ ys. filter keeps (map lent_binding ys)) (take_more xs i x inside ∙ ap (λ y. take i xs ++ y ∷ []) (sym is))
    ∙ ap (filter keeps) (map-append lent_binding (take i xs) (x ∷ []))
    ∙ filter-append keeps (map lent_binding (take i xs)) (lent_binding x ∷ [])

pub left_stays : (others : List Binding) (xs : List LentBinding) (i : ℕ) (x : LentBinding) → i < length xs → x ≡ get_or xs i x → has_binding (lent_binding x) others ≡ true
    → those_not_in others (map lent_binding (take (i + 1) xs)) ≡ those_not_in others (map lent_binding (take i xs))
left_stays others xs i x inside is there =
    left_more others xs i x inside is
    ∙ ap (λ b. those_not_in others (map lent_binding (take i xs)) ++ cond (not b) (lent_binding x ∷ []) []) there
    ∙ append-nil (those_not_in others (map lent_binding (take i xs)))

pub left_put : (others : List Binding) (xs : List LentBinding) (i : ℕ) (x : LentBinding) → i < length xs → x ≡ get_or xs i x → has_binding (lent_binding x) others ≡ false
    → those_not_in others (map lent_binding (take (i + 1) xs)) ≡ those_not_in others (map lent_binding (take i xs)) ++ lent_binding x ∷ []
left_put others xs i x inside is none =
    left_more others xs i x inside is ∙ ap (λ b. those_not_in others (map lent_binding (take i xs)) ++ cond (not b) (lent_binding x ∷ []) []) none
