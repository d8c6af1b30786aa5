-- Decimal digits.
use Rattle.std.proofs.Common.{◌≡◌, ℕ, ◌+◌, ◌-◌, ◌*◌, ◌^◌, ◌<◌, true, List, length, get_or, take, arith, add-one}
use Rattle.std.specs.Char.{is_ascii_digit, digit_value}
use Rattle.std.specs.Str.Parse.{digits_value}
use Rattle.std.proofs.Math.Nat.{pow-suc}
use Rattle.std.proofs.lemmas.Int.Digits.{digits_value_more}

-- one digit more makes a number that is less than the next power
pub power_step : (n d i : ℕ) → n < 10 ^ i → d < 10 → n * 10 + d < 10 ^ (i + 1)
power_step n d i small digit = rw (add-one, pow-suc) (omega arith)

-- a digit's value
pub digit_less : (c : ℕ) → is_ascii_digit c ≡ true → digit_value c ≡ c - 48
digit_less c digit = grind arith

pub digits_step : (text : List ℕ) (i n : ℕ) → i < length text → is_ascii_digit (get_or text i 0) ≡ true → n ≡ digits_value 10 (take i text) → n * 10 + (get_or text i 0 - 48) ≡ digits_value 10 (take (i + 1) text)
digits_step text i n here digit e = omega (arith, digits_value_more 10 text i here, digit_less (get_or text i 0) digit)
