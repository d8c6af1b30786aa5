-- JSON texts (RFC 8259) of values in listings.
use Rattle.std.specs.Prelude.{ℕ, ◌-◌, ◌^◌, ◌==◌, Bool, List, codes, decimal, if◌then◌else◌}

unfoldable pub truth_text : Bool → List ℕ
truth_text truth = if truth then codes "true" else codes "false"

-- the seconds of an expiry; null for what never expires
unfoldable pub until_text : ℕ → List ℕ
until_text until = if until == 2 ^ 64 - 1 then codes "null" else decimal until
