-- What a test says of the common parts of all choices, by one list of prefixes at a time.
use Rattle.std.proofs.Common.{◌≡◌, inl, inr, Bool, true, false, cond, ◌&&◌, ◌||◌, List, [], ◌∷◌, map, Option, Some, None, refl, sym, ap, ◌∙◌}
use Rattle.std.specs.List.{filter_map, cons_option, list_any, list_all}
use Rattle.std.specs.Option.{option_map_or, option_and_then}
use Rattle.std.proofs.lemmas.Bool.{false≢true}
use Rattle.std.proofs.Math.Bool.{or-false, and_comm}
use Rattle.base_rows.proofs.ListTests.{any-map, any-flat_map}
use Rattle.base_rows.proofs.Lists.{any_const}
use Rattle.mud_base.specs.declared.prefix.Prefix.{Prefix}
use Rattle.rule_export.specs.Networks.{holds_all, common_part}
use Rattle.rule_export.proofs.PrefixLaws.{IsOfPrefixes}
use Rattle.rule_export.proofs.Parts.{common_of, choices}

-- ---- Tests of the elements

pub any_alike : {A : Type 0} (p q : A → Bool) (xs : List A) → ((x : A) → p x ≡ q x) → list_any p xs ≡ list_any q xs
any_alike p q [] alike = refl
any_alike p q (x ∷ xs) alike = ap (λ b. b || list_any p xs) (alike x) ∙ ap (λ b. q x || b) (any_alike p q xs alike)

pub any_left_const : {A : Type 0} (c : Bool) (q : A → Bool) (xs : List A) → list_any (λ x. q x && c) xs ≡ (list_any q xs && c)
any_left_const c q xs = any_alike (λ x. q x && c) (λ x. c && q x) xs (λ x. and_comm (q x) c) ∙ any_const c q xs ∙ and_comm c (list_any q xs)

abbrev pub any_in : {A : Type 0} → (A → Bool) → Option A → Bool
any_in t o = option_map_or t o false

cons_any : {A : Type 0} (t : A → Bool) (o : Option A) (xs : List A) → list_any t (cons_option o xs) ≡ (any_in t o || list_any t xs)
cons_any t None xs = refl
cons_any t (Some x) xs = refl

pub any-filter_map : {A B : Type 0} (t : B → Bool) (f : A → Option B) (xs : List A) → list_any t (filter_map f xs) ≡ list_any (λ x. any_in t (f x)) xs
any-filter_map t f [] = refl
any-filter_map t f (x ∷ xs) = cons_any t (f x) (filter_map f xs) ∙ ap (λ b. any_in t (f x) || b) (any-filter_map t f xs)

-- ---- What a test says of the common parts

abbrev pub commons : List (List Prefix) → List Prefix
commons pss = filter_map common_of (choices pss)

-- the test of the common part of a choice
abbrev pub of_choice : (Prefix → Bool) → List Prefix → Bool
of_choice t c = any_in t (common_of c)

abbrev pub some_choice : (Prefix → Bool) → List (List Prefix) → Bool
some_choice t pss = list_any (of_choice t) (choices pss)

-- the test of what the prefix has in common with another
abbrev pub with_first : (Prefix → Bool) → Prefix → Prefix → Bool
with_first t p q = any_in t (common_part p q)

any_bind : (t : Prefix → Bool) (p : Prefix) (o : Option Prefix) → any_in t (option_and_then (common_part p) o) ≡ any_in (with_first t p) o
any_bind t p None = refl
any_bind t p (Some q) = refl

by_first : (test : List Prefix → Bool) (ps : List Prefix) (pss : List (List Prefix)) → list_any test (choices (ps ∷ pss)) ≡ list_any (λ p. list_any (λ c. test (p ∷ c)) (choices pss)) ps
by_first test ps pss =
    any-flat_map test (λ p. map (λ c. p ∷ c) (choices pss)) ps
    ∙ any_alike (λ p. list_any test (map (λ c. p ∷ c) (choices pss))) (λ p. list_any (λ c. test (p ∷ c)) (choices pss)) ps (λ p. any-map test (λ c. p ∷ c) (choices pss))

one_list : (t : Prefix → Bool) (ps : List Prefix) → some_choice t (ps ∷ []) ≡ list_any t ps
one_list t ps = by_first (of_choice t) ps [] ∙ any_alike (λ p. list_any (λ c. of_choice t (p ∷ c)) ([] ∷ [])) t ps (λ p. or-false (t p))

-- a choice has a prefix, so the first one's common part with the rest is one of two
two_prefixes : (t : Prefix → Bool) (p : Prefix) (qs : List Prefix) (pss : List (List Prefix)) → list_any (λ c. of_choice t (p ∷ c)) (choices (qs ∷ pss)) ≡ some_choice (with_first t p) (qs ∷ pss)
two_prefixes t p qs pss =
    by_first (λ c. of_choice t (p ∷ c)) qs pss
    ∙ any_alike (λ q. list_any (λ c. of_choice t (p ∷ (q ∷ c))) (choices pss)) (λ q. list_any (λ c. of_choice (with_first t p) (q ∷ c)) (choices pss)) qs
    (λ q. any_alike (λ c. of_choice t (p ∷ (q ∷ c))) (λ c. of_choice (with_first t p) (q ∷ c)) (choices pss) (λ c. any_bind t p (common_of (q ∷ c))))
    ∙ sym (by_first (of_choice (with_first t p)) qs pss)

-- the test of the common parts, by one list of prefixes more
pub one_more : (t : Prefix → Bool) (ps qs : List Prefix) (pss : List (List Prefix)) → some_choice t (ps ∷ (qs ∷ pss)) ≡ list_any (λ p. some_choice (with_first t p) (qs ∷ pss)) ps
one_more t ps qs pss =
    by_first (of_choice t) ps (qs ∷ pss)
    ∙ any_alike (λ p. list_any (λ c. of_choice t (p ∷ c)) (choices (qs ∷ pss))) (λ p. some_choice (with_first t p) (qs ∷ pss)) ps (λ p. two_prefixes t p qs pss)

pub some_commons : (t : Prefix → Bool) (pss : List (List Prefix)) → list_any t (commons pss) ≡ some_choice t pss
some_commons t pss = any-filter_map t common_of (choices pss)

pub one_commons : (t : Prefix → Bool) (ps : List Prefix) → list_any t (commons (ps ∷ [])) ≡ list_any t ps
one_commons t ps = some_commons t (ps ∷ []) ∙ one_list t ps

-- the common parts themselves, by one list of prefixes more
pub more_commons : (t : Prefix → Bool) (ps qs : List Prefix) (pss : List (List Prefix)) → list_any t (commons (ps ∷ (qs ∷ pss))) ≡ list_any (λ p. list_any (with_first t p) (commons (qs ∷ pss))) ps
more_commons t ps qs pss =
    some_commons t (ps ∷ (qs ∷ pss)) ∙ one_more t ps qs pss
    ∙ any_alike (λ p. some_choice (with_first t p) (qs ∷ pss)) (λ p. list_any (with_first t p) (commons (qs ∷ pss))) ps (λ p. sym (some_commons (with_first t p) (qs ∷ pss)))

-- ---- A test of prefixes passes a common part exactly where it passes both prefixes

module _ (h : Prefix → Bool) (is : IsOfPrefixes h) where
  first_holds : (p q : Prefix) → holds_all p q ≡ true → h q ≡ (h p && h q)
  first_holds p q e = by (h q) refl
    where
      by : (b : Bool) → h q ≡ b → h q ≡ (h p && h q)
      by true f = ap (λ b. b && h q) (sym (is.wider p q e f))
      by false f = f ∙ sym (and_comm (h p) (h q) ∙ ap (λ b. b && h p) f)

  apart : (p q : Prefix) → holds_all p q ≡ false → holds_all q p ≡ false → (b c : Bool) → h p ≡ b → h q ≡ c → false ≡ (b && c)
  apart p q e f true true g k = absurd (elim (is.nested p q g k) [ inl x ↦ false≢true (sym e ∙ x) | inr x ↦ false≢true (sym f ∙ x) ])
  apart p q e f true false g k = refl
  apart p q e f false c g k = refl

  common_by : (p q : Prefix) (b c : Bool) → holds_all p q ≡ b → holds_all q p ≡ c → any_in h (cond b (Some q) (cond c (Some p) None)) ≡ (h p && h q)
  common_by p q true c e f = first_holds p q e
  common_by p q false true e f = first_holds q p f ∙ and_comm (h q) (h p)
  common_by p q false false e f = apart p q e f (h p) (h q) refl refl

  pub in_common : (p q : Prefix) → with_first h p q ≡ (h p && h q)
  unfolding common_part
  in_common p q = common_by p q (holds_all p q) (holds_all q p) refl refl

  pub all_lists : (ps : List Prefix) (pss : List (List Prefix)) → list_any h (commons (ps ∷ pss)) ≡ list_all (λ qs. list_any h qs) (ps ∷ pss)
  all_lists ps [] = one_commons h ps ∙ sym (and_comm (list_any h ps) true)
  all_lists ps (qs ∷ pss) =
      more_commons h ps qs pss
      ∙ any_alike (λ p. list_any (with_first h p) (commons (qs ∷ pss))) (λ p. h p && list_all (λ rs. list_any h rs) (qs ∷ pss)) ps
      (λ p. any_alike (with_first h p) (λ q. h p && h q) (commons (qs ∷ pss)) (in_common p) ∙ any_const (h p) h (commons (qs ∷ pss)) ∙ ap (λ b. h p && b) (all_lists qs pss))
      ∙ any_left_const (list_all (λ rs. list_any h rs) (qs ∷ pss)) h ps
