-- One text behind another.
use Rattle.std.proofs.Common.{◌≡◌, ℕ, List, ◌++◌, Result, Ok, Err}
use Rattle.std.specs.Prelude.{OnOk}
use Rattle.text_values.proofs.Parts.{behind_both}

-- one text behind another, where the second was written
pub ok_behind : {T E : Type 0} (r : Result T E) (s a b t u : List ℕ) → t ≡ s ++ a → OnOk r (u ≡ t ++ b) → OnOk r (u ≡ s ++ (a ++ b))
ok_behind (Ok x) s a b t u first next = behind_both s a b t u first next
ok_behind (Err e) s a b t u first next = tt
