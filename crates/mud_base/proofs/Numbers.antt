-- Decimal digits that were written are read back.
use Rattle.std.proofs.Common.{◌≡◌, ℕ, ◌^◌, ◌<◌, ◌≤◌, length, get_or, Some, true, refl, arith, rules, le-leb, decimal, inl, inr}
use Rattle.std.specs.Str.{all_ascii_digits}
use Rattle.std.proofs.lemmas.Bool.{cases_lt}
use Rattle.std.proofs.lemmas.Bool.Decides.{nat_tests}
use Rattle.std.proofs.lemmas.Fmt.{digits_decimal, digits_value-decimal, decimal_nonempty, first_decimal, decimal_digit}
use Rattle.std.proofs.lemmas.Str.Parse.{IsNumeralModel, numerals_by_fold}
use Rattle.mud_base.specs.Decimal.{digits_upto, number_upto}
use Rattle.mud_base.proofs.Parts.{has_numeral_front, number_behind}

own : IsNumeralModel (λ ds. all_ascii_digits ds ≡ true) (number_behind 0)
own = numerals_by_fold _ (search rules) number_behind (search rules)

has_numeral_front-decimal : (n : ℕ) → n < 2 ^ 64 → has_numeral_front (decimal n) ≡ true
has_numeral_front-decimal n small =
    elim (cases_lt n 1) [
      | inl zero ↦ rw (decimal_digit n (omega arith)) refl
      | inr more ↦
          let first : 48 < get_or (decimal n) 0 0 = first_decimal n (omega arith) small in
          let some : 0 < length (decimal n) = decimal_nonempty n small in
          grind (arith, nat_tests)
    ]

pub number_upto-decimal : (most n : ℕ) → n < 2 ^ 64 → n ≤ most → number_upto most (decimal n) ≡ Some n
unfolding number_upto digits_upto
number_upto-decimal most n small within =
    let front = has_numeral_front-decimal n small in
    let digits : all_ascii_digits (decimal n) ≡ true = digits_decimal own n small in
    let value : number_behind 0 (decimal n) ≡ n = digits_value-decimal own n small in
    rw (front, digits, value, le-leb n most within) refl
