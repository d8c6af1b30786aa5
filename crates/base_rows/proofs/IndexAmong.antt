-- The index of a sort key, sought from the front.
use Rattle.std.proofs.Common.{ℕ, ◌+◌, Result, Ok, Err}

-- so many rows later
abbrev pub on_by : ℕ → Result ℕ ℕ → Result ℕ ℕ
on_by n (Ok i) = Ok (n + i)
on_by n (Err i) = Err (n + i)
