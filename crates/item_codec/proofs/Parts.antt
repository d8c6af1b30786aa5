-- Parts of definitions that lemmas speak of.
use Rattle.std.specs.Prelude.{ℕ, List, Option, Some}

abbrev pub some_value : {A : Type 0} → A × List ℕ → Option A × List ℕ
some_value x = (Some x.0, x.1)
