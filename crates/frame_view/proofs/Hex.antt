-- Octets as hex digits, with spaces where they help to read.
use Rattle.std.specs.Prelude.{ℕ, ◌+◌, ◌-◌, ◌*◌, not, ◌==◌, nat_lt, List, [], ◌∷◌, filter, if◌then◌else◌}

abbrev pub digit : ℕ → ℕ
digit c = if nat_lt c 58 then (c - 48) else (c - 87)

abbrev pub pairs : List ℕ → List ℕ
pairs [] = []
pairs (c ∷ []) = []
pairs (c ∷ d ∷ more) = (digit c * 16 + digit d) ∷ pairs more

abbrev pub from_hex : List ℕ → List ℕ
from_hex text = pairs (filter (λ c. not (c == 32)) text)
