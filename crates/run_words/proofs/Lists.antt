-- Tests of lists.
use Rattle.std.proofs.Common.{◌≡◌, Bool, ◌||◌, List, [], ◌∷◌, map, refl, ap}
use Rattle.std.specs.List.{list_any}

pub any_of_map : {X Y : Type 0} (test : Y → Bool) (view : X → Y) (xs : List X) → list_any test (map view xs) ≡ list_any (λ x. test (view x)) xs
any_of_map test view [] = refl
any_of_map test view (x ∷ xs) = ap (λ rest. test (view x) || rest) (any_of_map test view xs)
