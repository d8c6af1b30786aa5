-- How the lines of a program are added.
use Rattle.std.proofs.Common.{◌≡◌, ℕ, ◌+◌, ◌<◌, List, [], ◌∷◌, length, take, map, ap, ◌∙◌}
use Rattle.std.specs.Prelude.{fold, get_or}
use Rattle.std.proofs.lemmas.List.{map_more}
use Rattle.std.proofs.lemmas.List.Sums.{fold-append}

-- one more of what is told is taken
pub one_more : {X Y Z : Type 0} (take_one : Z → Y → Z) (from : Z) (view : X → Y) (xs : List X) (i : ℕ) (x : X) → i < length xs → fold take_one from (map view (take (i + 1) xs)) ≡ take_one (fold take_one from (map view (take i xs))) (view (get_or xs i x))
one_more take_one from view xs i x within = ap (fold take_one from) (map_more view xs i x within) ∙ fold-append take_one from (map view (take i xs)) (view (get_or xs i x) ∷ [])
