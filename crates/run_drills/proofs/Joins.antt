-- Texts that were added one after the other.
use Rattle.std.proofs.Common.{◌≡◌, ℕ, List, ◌++◌, ap, ◌∙◌, append_assoc}

regroup_three : (old a b c : List ℕ) → ((old ++ a) ++ b) ++ c ≡ old ++ ((a ++ b) ++ c)
regroup_three old a b c = simp append_assoc

regroup_four : (old a b c d : List ℕ) → (((old ++ a) ++ b) ++ c) ++ d ≡ old ++ (((a ++ b) ++ c) ++ d)
regroup_four old a b c d = simp append_assoc

pub joined_three : (old x y z a b c : List ℕ) → x ≡ old ++ a → y ≡ x ++ b → z ≡ y ++ c → z ≡ old ++ ((a ++ b) ++ c)
joined_three old x y z a b c p q r = r ∙ ap (λ (l : List ℕ). l ++ c) (q ∙ ap (λ (l : List ℕ). l ++ b) p) ∙ regroup_three old a b c

pub joined_four : (old x y z w a b c d : List ℕ) → x ≡ old ++ a → y ≡ x ++ b → z ≡ y ++ c → w ≡ z ++ d → w ≡ old ++ (((a ++ b) ++ c) ++ d)
joined_four old x y z w a b c d p q r s = s ∙ ap (λ (l : List ℕ). l ++ d) (r ∙ ap (λ (l : List ℕ). l ++ c) (q ∙ ap (λ (l : List ℕ). l ++ b) p)) ∙ regroup_four old a b c d
