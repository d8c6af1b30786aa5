-- A table of faults, in its order: the first row that holds is the fault.
use Rattle.std.specs.Prelude.{ℕ, Bool, List, [], ◌∷◌, Option, Some, None, option_map, Result, Err, if◌then◌else◌}

-- a row: the fault, where its condition holds
abbrev pub row : {F : Type 0} → Bool → F → Option F
row holds fault = if holds then Some fault else None

-- a row whose fault names the offset where it was found
abbrev pub row_at : {F : Type 0} → (ℕ → F) → Option ℕ → Option F
row_at fault offset = option_map fault offset

abbrev pub first_row : {F : Type 0} → List (Option F) → Option F
first_row [] = None
first_row (None ∷ more) = first_row more
first_row (Some fault ∷ more) = Some fault

abbrev pub unless_fault : {A F : Type 0} → Option F → Result A F → Result A F
unless_fault None answer = answer
unless_fault (Some fault) answer = Err fault

-- the answer, unless a row of the table holds
abbrev pub unless : {A F : Type 0} → List (Option F) → Result A F → Result A F
unless rows answer = unless_fault (first_row rows) answer
