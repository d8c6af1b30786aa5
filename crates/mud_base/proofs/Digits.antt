-- Reading decimal digits one by one.
use Rattle.std.proofs.Common.{◌≡◌, ℕ, ◌+◌, ◌-◌, ◌*◌, ◌<◌, ◌≤◌, true, false, List, [], ◌∷◌, refl, arith, ap, ◌∙◌, sym, length, drop, get_or, suc, drop-cons, add-one}
use Rattle.std.proofs.Math.ListN.{drop_of_length-le}
use Rattle.std.specs.Prelude.{Some, None}
use Rattle.std.specs.Char.{is_ascii_digit}
use Rattle.mud_base.specs.Decimal.{digits_upto}
use Rattle.mud_base.proofs.Parts.{number_behind}

-- more digits spell no lesser number
pub number_behind_ge : (n : ℕ) (cs : List ℕ) → n ≤ number_behind n cs
number_behind_ge n [] = omega arith
number_behind_ge n (c ∷ cs) = omega (arith, number_behind_ge (n * 10 + (c - 48)) cs)

pub digits_more : (most n c : ℕ) (cs : List ℕ) → is_ascii_digit c ≡ true → digits_upto most n (c ∷ cs) ≡ digits_upto most (n * 10 + (c - 48)) cs
unfolding digits_upto
digits_more most n c cs digit = rw digit refl

pub digits_other : (most n c : ℕ) (cs : List ℕ) → is_ascii_digit c ≡ false → digits_upto most n (c ∷ cs) ≡ None
unfolding digits_upto
digits_other most n c cs other = rw other refl

-- the same at an offset of a text
pub digits_step : (most n : ℕ) (text : List ℕ) (i : ℕ) → i < length text → is_ascii_digit (get_or text i 0) ≡ true → digits_upto most n (drop i text) ≡ digits_upto most (n * 10 + (get_or text i 0 - 48)) (drop (i + 1) text)
digits_step most n text i here digit = ap (digits_upto most n) (drop-cons text i 0 here) ∙ digits_more most n (get_or text i 0) (drop (suc i) text) digit ∙ ap (λ k. digits_upto most (n * 10 + (get_or text i 0 - 48)) (drop k text)) (sym (add-one i))

pub digits_stop : (most n : ℕ) (text : List ℕ) (i : ℕ) → i < length text → is_ascii_digit (get_or text i 0) ≡ false → digits_upto most n (drop i text) ≡ None
digits_stop most n text i here other = ap (digits_upto most n) (drop-cons text i 0 here) ∙ digits_other most n (get_or text i 0) (drop (suc i) text) other

pub digits_above : (most n : ℕ) (cs : List ℕ) → most < n → digits_upto most n cs ≡ None
unfolding digits_upto
digits_above most n cs above = grind (arith, number_behind_ge n cs)

pub digits_none : (most n : ℕ) → n ≤ most → digits_upto most n [] ≡ Some n
unfolding digits_upto
digits_none most n within = grind arith

pub digits_end : (most n : ℕ) (text : List ℕ) (i : ℕ) → n ≤ most → length text ≤ i → digits_upto most n (drop i text) ≡ Some n
digits_end most n text i within over = ap (digits_upto most n) (drop_of_length-le text over) ∙ digits_none most n within
