-- What loops have made so far, with one element more.
use Rattle.std.proofs.Common.{◌≡◌, ℕ, ◌+◌, ◌<◌, ◌≤◌, List, [], ◌∷◌, ◌++◌, length, map, take, get_or, sym, ap, ◌∙◌, append_assoc}
use Rattle.std.proofs.lemmas.List.{take_all}
pub use Rattle.table_model.proofs.RowSets.{take_one}
use Rattle.table_model.proofs.RowSets.{map_push}
pub use Rattle.table_laws.proofs.OldRows.{found_before}

pub map-take : {A B : Type 0} (f : A → B) (xs : List A) (i : ℕ) (x : A) → i < length xs → x ≡ get_or xs i x → map f (take (i + 1) xs) ≡ map f (take i xs) ++ f x ∷ []
map-take f xs i x within is = ap (map f) (take_one xs i x within is) ∙ map_push f (take i xs) x

-- ---- Lists that grow behind a front

-- one more element behind
pub push_behind : {A B : Type 0} (f : A → B) (front so_far : List B) (xs : List A) (i : ℕ) (x : A) → i < length xs → x ≡ get_or xs i x → so_far ≡ front ++ map f (take i xs) → so_far ++ f x ∷ [] ≡ front ++ map f (take (i + 1) xs)
push_behind f front so_far xs i x within is e =
    ap (λ ys. ys ++ f x ∷ []) e ∙ append_assoc front (map f (take i xs)) (f x ∷ []) ∙ ap (λ ys. front ++ ys) (sym (map-take f xs i x within is))

pub all_behind : {A B : Type 0} (f : A → B) (front so_far : List B) (xs : List A) (i : ℕ) → length xs ≤ i → so_far ≡ front ++ map f (take i xs) → so_far ≡ front ++ map f xs
all_behind f front so_far xs i ended e = e ∙ ap (λ ys. front ++ map f ys) (take_all i xs ended)
