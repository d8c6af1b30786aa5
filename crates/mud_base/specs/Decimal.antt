-- Numbers in decimal digits.
use Rattle.std.specs.Prelude.{ℕ, ◌+◌, ◌-◌, ◌*◌, Bool, not, ◌&&◌, ◌||◌, ◌==◌, nat_le, List, [], ◌∷◌, length, slice_index, Option, Some, None, if◌then◌else◌}
use Rattle.std.specs.Str.{all_ascii_digits}

-- the number that a text of digits spells behind those of n, where it is at most `most`
unfoldable pub digits_upto : ℕ → ℕ → List ℕ → Option ℕ
digits_upto most n text = if all_ascii_digits text && nat_le (number_behind n text) most then Some (number_behind n text) else None
  where
    -- the number that these digits spell behind those of n
    number_behind : ℕ → List ℕ → ℕ
    number_behind n [] = n
    number_behind n (c ∷ cs) = number_behind (n * 10 + (c - 48)) cs

-- the number that decimal digits with no leading zero spell, where it is at most `most`
unfoldable pub number_upto : ℕ → List ℕ → Option ℕ
number_upto most text = if has_numeral_front text then digits_upto most 0 text else None
  where
    -- there is a digit, and no zero stands in front of another one
    has_numeral_front : List ℕ → Bool
    has_numeral_front text = not (length text == 0) && (length text == 1 || not (slice_index text 0 == 48))
