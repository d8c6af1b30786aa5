-- Lookups in a router whose routes have no parameter: a path has the route of its text, and no other.
use Rattle.std.proofs.Common.{◌≡◌, ℕ, zero, suc, ◌-◌, ◌≤◌, List, [], ◌∷◌, length, Option, Some, None, Bool, true, false, cond, ◌&&◌, refl, ap, ◌∙◌, arith, ◌==◌, lit≤}
use Rattle.std.proofs.lemmas.Bool.Decides.{nat_tests}
use Rattle.matchit.specs.Rows.{RowsOf, param_token, catch_all_token}
use Rattle.matchit.specs.Seek.{own, step, or_else, seek, first, param_step, has_slash, same_text}
use Rattle.matchit.specs.Level.{IsText}

module _ {K : Type 0} where
  -- the row of just this path
  abbrev pub row_at : List ℕ → RowsOf K → Option K
  row_at path [] = None
  row_at path ((t, k) ∷ rest) = cond (same_text t path) (Some k) (row_at path rest)

  abbrev pub AllLiteral : RowsOf K → Type 0
  AllLiteral [] = Unit {0}
  AllLiteral ((t, k) ∷ rest) = IsText t × AllLiteral rest

  or_none : (a : Option K) → or_else a None ≡ a
  or_none None = refl
  or_none (Some k) = refl

  param_none : (p : List ℕ) → (param_step {K = K} [] p).1 ≡ []
  unfolding param_step
  param_none p =
      elim (has_slash p) as (λ v. (cond {A = ℕ × RowsOf K} v (0, []) (length p, [])).1 ≡ []) [
        | true ↦ refl
        | false ↦ refl
      ]

  seek_none : (k : ℕ) (p : List ℕ) → seek {K = K} k [] p ≡ None
  unfolding seek
  seek_none k [] = refl
  seek_none (suc k) (b ∷ p) = seek_none k p
  seek_none zero (b ∷ p) = simp (seek_none 0 p, param_none (b ∷ p), seek_none (((param_step {K = K} [] (b ∷ p)).0) - 1) p)

  step_wild : (w : ℕ) (rs : RowsOf K) → 256 ≤ w → AllLiteral rs → step w rs ≡ []
  step_wild w [] h all = refl
  step_wild w (([], k) ∷ rest) h all = step_wild w rest h all.1
  step_wild w ((x ∷ t, k) ∷ rest) h all =
      let n : (x == w) ≡ false = grind (arith, nat_tests, all.0.0) in
      rw n (step_wild w rest h all.1)

  step_literal : (b : ℕ) (rs : RowsOf K) → AllLiteral rs → AllLiteral (step b rs)
  step_literal b [] all = tt
  step_literal b (([], k) ∷ rest) all = step_literal b rest all.1
  step_literal b ((x ∷ t, k) ∷ rest) all = by (x == b) (step_literal b rest all.1)
    where
      by : (v : Bool) → AllLiteral (step b rest) → AllLiteral (cond v ((t, k) ∷ step b rest) (step b rest))
      by true h = (all.0.1, h)
      by false h = h

  own_at : (rs : RowsOf K) → own rs ≡ row_at [] rs
  own_at [] = refl
  own_at (([], k) ∷ rest) = refl
  own_at ((x ∷ t, k) ∷ rest) = own_at rest

  step_at : (b : ℕ) (p : List ℕ) (rs : RowsOf K) → row_at p (step b rs) ≡ row_at (b ∷ p) rs
  step_at b p [] = refl
  step_at b p (([], k) ∷ rest) = step_at b p rest
  step_at b p ((x ∷ t, k) ∷ rest) = by (x == b) (step_at b p rest)
    where
      by : (v : Bool) → row_at p (step b rest) ≡ row_at (b ∷ p) rest → row_at p (cond v ((t, k) ∷ step b rest) (step b rest)) ≡ cond (v && same_text t p) (Some k) (row_at (b ∷ p) rest)
      by true h = ap (cond (same_text t p) (Some k)) h
      by false h = h

  pub first_literal : (rs : RowsOf K) (path : List ℕ) → AllLiteral rs → first rs path ≡ row_at path rs
  unfolding seek
  first_literal rs [] all = own_at rs
  first_literal rs (b ∷ p) all =
      simp (step_wild param_token rs (lit≤ tt) all, step_wild catch_all_token rs (lit≤ tt) all, param_none (b ∷ p), seek_none ((param_step {K = K} [] (b ∷ p)).0 - 1) p, or_none)
      (first_literal (step b rs) p (step_literal b rs all) ∙ step_at b p rs)
