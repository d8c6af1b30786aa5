-- The texts of several, one after the other, with commas between them.
use Rattle.std.specs.Prelude.{ℕ, List, [], ◌∷◌, ◌++◌, flat_map, codes}

abbrev pub behind_comma : {A : Type 0} → (A → List ℕ) → A → List ℕ
behind_comma text a = codes "," ++ text a

unfoldable pub with_commas : {A : Type 0} → (A → List ℕ) → List A → List ℕ
with_commas text [] = []
with_commas text (first ∷ later) = text first ++ flat_map (behind_comma text) later
