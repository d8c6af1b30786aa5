-- Two texts that were written into a buffer of spaces, the second one first.
use Rattle.std.proofs.Common.{◌≡◌, ℕ, suc, ◌+◌, ◌-◌, ◌≤◌, List, [], ◌∷◌, ◌++◌, length, take, drop, get_or, sym, ap, ◌∙◌, append_assoc, codes, arith, length-drop, drop-cons}
use Rattle.std.proofs.Math.ListN.{replicate}
use Rattle.std.proofs.lemmas.List.{get_or-replicate, get_or-take, take_all}

module _ (one both first second : List ℕ) (behind start : ℕ) (behind_is : behind + length second ≡ 21) (some : 1 ≤ behind) (long : length one ≡ 22) where
  space_there : take behind one ≡ take behind (replicate 22 32) → get_or one (behind - 1) 0 ≡ 32
  space_there same =
      sym (get_or-take behind one (behind - 1) 0 (omega arith))
      ∙ ap (λ (l : List ℕ). get_or l (behind - 1) 0) same
      ∙ get_or-take behind (replicate 22 32) (behind - 1) 0 (omega arith)
      ∙ get_or-replicate 22 (behind - 1) 32 0 (omega arith)

  second_there : drop behind one ≡ second ++ drop 21 (replicate 22 32) → take behind one ≡ take behind (replicate 22 32) → drop (behind - 1) one ≡ 32 ∷ (second ++ 32 ∷ [])
  second_there written same =
      let next : suc (behind - 1) ≡ behind = omega arith in
      drop-cons one (behind - 1) 0 (omega arith)
      ∙ ap (λ (n : ℕ). n ∷ drop (suc (behind - 1)) one) (space_there same)
      ∙ ap (λ (k : ℕ). 32 ∷ drop k one) next
      ∙ ap (λ (l : List ℕ). 32 ∷ l) written

  -- both texts, each with the space behind it
  pub two_written : drop behind one ≡ second ++ drop 21 (replicate 22 32) → take behind one ≡ take behind (replicate 22 32) → start + length first ≡ behind - 1 → drop start both ≡ first ++ drop (behind - 1) one → length both ≡ 22
      → take (22 - start) (drop start both) ≡ first ++ codes " " ++ second ++ codes " "
  two_written written same start_is first_written wide =
      take_all (22 - start) (drop start both) (omega (arith, length-drop start both))
      ∙ first_written
      ∙ ap (λ (l : List ℕ). first ++ l) (second_there written same)
      ∙ sym (append_assoc (first ++ codes " ") second (codes " ") ∙ append_assoc first (codes " ") (second ++ codes " "))
