-- Parts of what a statement does, and lists of rows.
use Rattle.std.proofs.Common.{◌≡◌, ◌⊎◌, inl, inr, List, [], ◌∷◌, ◌++◌, map, Bool, true, false, cond, Ok, Err, Result, refl, ap}
use Rattle.std.specs.List.{filter, flat_map}
use Rattle.sqlite_value.specs.Order.{Row}

-- a part that gave a value did not stop on the way
pub went : {B E R : Type 0} {b : B} {Stops : E → Type 0} → ((stop : E) × Stops stop × (Ok b ≡ Err stop)) ⊎ R → R
went (inl stopped) = absurd (let e = stopped.2 in cc)
went (inr on) = on

pub same_value : {B E : Type 0} {a b : B} → ◌≡◌ {A = Result B E} (Ok a) (Ok b) → a ≡ b
same_value e = cc

-- the rows of one table that pass a test, after a row that is given
pub one_table : (given : Row) (test : Row → Bool) (rows : List Row) → flat_map (λ r. cond (test r) ((given ∷ r ∷ []) ∷ []) []) rows ≡ map (λ r. given ∷ r ∷ []) (filter test rows)
one_table given test [] = refl
one_table given test (r ∷ rs) = by (one_table given test rs) (test r)
  where
    by : flat_map (λ r. cond (test r) ((given ∷ r ∷ []) ∷ []) []) rs ≡ map (λ r. given ∷ r ∷ []) (filter test rs) → (b : Bool)
        → cond b ((given ∷ r ∷ []) ∷ []) [] ++ flat_map (λ r. cond (test r) ((given ∷ r ∷ []) ∷ []) []) rs ≡ map (λ r. given ∷ r ∷ []) (cond b (r ∷ filter test rs) (filter test rs))
    by rest true = ap (λ xs. (given ∷ r ∷ []) ∷ xs) rest
    by rest false = rest

pub map_map : {X Y Z : Type 0} (f : X → Y) (h : Y → Z) (xs : List X) → map h (map f xs) ≡ map (λ x. h (f x)) xs
map_map f h [] = refl
map_map f h (x ∷ xs) = ap (λ ys. h (f x) ∷ ys) (map_map f h xs)
