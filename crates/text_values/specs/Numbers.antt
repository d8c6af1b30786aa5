-- Texts of numbers.
use Rattle.std.specs.Prelude.{ℕ, ◌-◌, ◌^◌, ◌==◌, List, [], ◌++◌, codes, decimal, Option, Some, None, if◌then◌else◌}

-- a space and the number
unfoldable pub number_text : ℕ → List ℕ
number_text number = codes " " ++ decimal number

-- two numbers, and a space behind each
unfoldable pub two_text : ℕ → ℕ → List ℕ
two_text first second = decimal first ++ codes " " ++ decimal second ++ codes " "

-- a space and the number, where there is one
unfoldable pub offset_text : Option ℕ → List ℕ
offset_text None = []
offset_text (Some offset) = number_text offset

-- what lasts for ever never expires, and its expiry is the last number of 64 bits
unfoldable pub expiry_text : ℕ → List ℕ
expiry_text expiry = if expiry == 2 ^ 64 - 1 then codes "never" else decimal expiry
