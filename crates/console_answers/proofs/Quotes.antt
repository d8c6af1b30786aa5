-- A text in quotes.
use Rattle.std.proofs.Common.{◌≡◌, ℕ, List, [], ◌∷◌, ◌++◌, ◌∙◌, append_assoc}

pub in_quotes : (s e : List ℕ) (q : ℕ) → ((s ++ q ∷ []) ++ e) ++ q ∷ [] ≡ s ++ q ∷ (e ++ q ∷ [])
in_quotes s e q = append_assoc (s ++ q ∷ []) e (q ∷ []) ∙ append_assoc s (q ∷ []) (e ++ q ∷ [])
