-- What holds of a result, whatever it is.
use Rattle.std.proofs.Common.{Result, Ok, Err, OnErr}

-- what holds anyhow holds after an error
pub always_on_err : {A E P : Type 0} (r : Result A E) → P → OnErr r P
always_on_err (Ok a) holds = tt
always_on_err (Err e) holds = holds
