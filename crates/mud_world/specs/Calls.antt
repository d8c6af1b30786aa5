-- The calls of something in memory, counted from 1, and those that are to fail.
use Rattle.std.specs.Prelude.{ℕ, ◌+◌, ◌-◌, ◌^◌, ◌==◌, min, Bool, if◌then◌else◌, List}
use Rattle.std.specs.List.{list_any}

-- the number of the call after so many: numbers stop at the last one
abbrev pub next_call : ℕ → ℕ
next_call calls = min (calls + 1) (2 ^ 64 - 1)

-- whether the call of that number is to fail
abbrev pub is_listed : List ℕ → ℕ → Bool
is_listed failing number = list_any (λ listed. listed == number) failing

-- a count of failures after a call
abbrev pub counted : Bool → ℕ → ℕ
counted failed count = (if failed then min (count + 1) (2 ^ 64 - 1) else count)
