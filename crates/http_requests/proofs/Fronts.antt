-- Parts of the front of octets.
use Rattle.std.proofs.Common.{◌≡◌, ℕ, ◌+◌, ◌-◌, ◌≤◌, Bool, List, ◌++◌, length, take, drop, None, sym, ap, ◌∙◌, arith, length-drop, take-take, take_all, le_refl}
use Rattle.std.specs.List.{before_first, position, position_or_len}
use Rattle.std.proofs.lemmas.List.{take-append-le, drop-append-le}
use Rattle.std.proofs.Math.Seq.{take-append-add}
use Rattle.std.specs.Prelude.{slice_range}
use Rattle.mud_base.proofs.Positions.{position_none}

-- the front of a part
pub span_front : (xs : List ℕ) (s e k : ℕ) → s + k ≤ e → slice_range xs s (s + k) ≡ take k (slice_range xs s e)
span_front xs s e k fits =
    let size : s + k - s ≡ k = omega arith in
    ap (λ n. take n (drop s xs)) size ∙ sym (take-take k (e - s) (drop s xs) (omega arith))

-- ---- What stands before the first that passes a test

pub before_first_none : (p : ℕ → Bool) (xs : List ℕ) → None ≡ position p xs → take (length xs) xs ≡ before_first p xs
before_first_none p xs e = take_all (length xs) xs (le_refl (length xs)) ∙ sym (take_all (position_or_len p xs) xs (position_none (position_or_len p xs) (length xs) e))

-- ---- Parts of the front

-- a part that stands in the front
pub span_in_front : (text rest : List ℕ) (s e : ℕ) → s ≤ e → e ≤ length text → slice_range (text ++ rest) s e ≡ slice_range text s e
span_in_front text rest s e ordered within =
    ap (take (e - s)) (drop-append-le s text rest (omega arith)) ∙ take-append-le (e - s) (drop s text) rest (omega (arith, length-drop s text))

-- the front of a longer list
pub take_longer : (text rest : List ℕ) (n : ℕ) → length text ≤ n → take n (text ++ rest) ≡ text ++ take (n - length text) rest
take_longer text rest n fits =
    let size : n ≡ length text + (n - length text) = omega arith in
    ap (λ m. take m (text ++ rest)) size ∙ take-append-add text rest (n - length text)
