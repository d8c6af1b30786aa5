-- Lists of prefixes are the same where they are as long and each prefix is the same as the other's.
use Rattle.std.proofs.Common.{◌≡◌, ℕ, zero, suc, ◌+◌, ◌<◌, Bool, true, false, ◌&&◌, List, [], ◌∷◌, length, drop, get_or, refl, sym, ap, subst, ◌∙◌, arith}
use Rattle.mud_base.specs.declared.prefix.Prefix.{Prefix}
use Rattle.table_model.specs.Binds.{same_prefix, same_prefixes}
use Rattle.std.proofs.Math.Bool.{and-false}

-- the prefixes that were compared are those in front
same_front : (x y a b : Prefix) (t : Bool) → x ≡ a → y ≡ b → same_prefix x y ≡ t → same_prefix a b ≡ t
same_front x y a b t e f g = sym (ap (λ p. same_prefix p y) e ∙ ap (same_prefix a) f) ∙ g

-- lists of other lengths
pub other_lengths : (xs ys : List Prefix) → (length xs ≡ length ys → ⊥) → same_prefixes xs ys ≡ false
unfolding same_prefixes
other_lengths [] [] apart = absurd (apart refl)
other_lengths [] (y ∷ ys) apart = refl
other_lengths (x ∷ xs) [] apart = refl
other_lengths (x ∷ xs) (y ∷ ys) apart = ap (λ b. same_prefix x y && b) (other_lengths xs ys (λ e. apart (omega arith))) ∙ and-false (same_prefix x y)

-- lists of one length, behind their ends
pub at_end : (xs ys : List Prefix) → length xs ≡ length ys → same_prefixes (drop (length xs) xs) (drop (length xs) ys) ≡ true
unfolding same_prefixes
at_end [] [] e = refl
at_end [] (y ∷ ys) e = absurd (omega arith)
at_end (x ∷ xs) [] e = absurd (omega arith)
at_end (x ∷ xs) (y ∷ ys) e = at_end xs ys (omega arith)

-- lists with other prefixes at an index
pub others_there : (xs ys : List Prefix) (i : ℕ) (x y : Prefix) → i < length xs → i < length ys → x ≡ get_or xs i x → y ≡ get_or ys i y → same_prefix x y ≡ false → same_prefixes xs ys ≡ false
unfolding same_prefixes
others_there [] ys i x y h k e f g = absurd (omega arith)
others_there (a ∷ xs) [] i x y h k e f g = absurd (omega arith)
others_there (a ∷ xs) (b ∷ ys) zero x y h k e f g = ap (λ t. t && same_prefixes xs ys) (same_front x y a b false e f g)
others_there (a ∷ xs) (b ∷ ys) (suc i) x y h k e f g = ap (λ t. same_prefix a b && t) (others_there xs ys i x y (omega arith) (omega arith) e f g) ∙ and-false (same_prefix a b)

more_there : (xs ys : List Prefix) (i : ℕ) (x y : Prefix) → i < length xs → i < length ys → x ≡ get_or xs i x → y ≡ get_or ys i y → same_prefix x y ≡ true → same_prefixes (drop (suc i) xs) (drop (suc i) ys) ≡ true → same_prefixes (drop i xs) (drop i ys) ≡ true
unfolding same_prefixes
more_there [] ys i x y h k e f g rest = absurd (omega arith)
more_there (a ∷ xs) [] i x y h k e f g rest = absurd (omega arith)
more_there (a ∷ xs) (b ∷ ys) zero x y h k e f g rest = ap (λ t. t && same_prefixes xs ys) (same_front x y a b true e f g) ∙ rest
more_there (a ∷ xs) (b ∷ ys) (suc i) x y h k e f g rest = more_there xs ys i x y (omega arith) (omega arith) e f g rest

-- the lists from an index on, where they are the same from the next one on
pub same_from : (xs ys : List Prefix) (i j : ℕ) (x y : Prefix) → j ≡ i + 1 → i < length xs → i < length ys → x ≡ get_or xs i x → y ≡ get_or ys i y → same_prefix x y ≡ true → same_prefixes (drop j xs) (drop j ys) ≡ true → same_prefixes (drop i xs) (drop i ys) ≡ true
same_from xs ys i j x y is h k e f g rest =
    let next : j ≡ suc i = omega arith in
    let Same : ℕ → Type 0 = λ n. same_prefixes (drop n xs) (drop n ys) ≡ true in
    more_there xs ys i x y h k e f g (subst Same next rest)
