-- Jumps over the pointers that lead to pointers.
use Rattle.std.proofs.Common.{◌≡◌, inl, inr, ltb, ltb-true, ltb-false, ℕ, ◌<◌, ◌≤◌, List, [], ◌∷◌, ◌++◌, length, drop, get_or, Ok, refl, sym, ap, subst, ◌∙◌, arith, length-append}
use Rattle.std.proofs.lemmas.Bool.{cases_Bool}
use Rattle.std.proofs.lemmas.List.{get_or_append_left, get_or_push, get_or_default, get_or_past}
use Rattle.dns_snoop.specs.declared.name.RunEnd.TheVariants.{Pointer}
use Rattle.dns_snoop.specs.Names.{Run, run_from, run_at, ended, chained, chain_behind}
use Rattle.dns_snoop.specs.Steps.{AreJumps, IsJump}
use Rattle.dns_snoop.proofs.Walks.{pointer_below}

-- there are no jumps yet
pub jumps_none : (message : List ℕ) → AreJumps message []
jumps_none message = record { each = λ i low. absurd (omega arith) }

-- an offset is a jump from itself
pub jump_nowhere : (message : List ℕ) (offset : ℕ) → IsJump message offset offset
jump_nowhere message offset = record { before = omega arith; same = λ start at below. refl }

-- a pointer has behind it what the pointer to which it leads has
jump_once : (message : List ℕ) (offset target start at : ℕ) → offset < start → target < offset → run_at message offset ≡ ended (Ok (Pointer offset target))
    → chain_behind start message start (Pointer at offset) ≡ chain_behind start message start (Pointer at target)
jump_once message offset target start at below before is =
    pointer_below start at offset message below
    ∙ ap (λ (run : Run). chained run (chain_behind offset message offset)) is
    ∙ pointer_below offset offset target message before
    ∙ sym (pointer_below start at target message (omega arith))

-- from a pointer to an offset before it the jump from there
pub jump_further : (message jumps : List ℕ) (offset target : ℕ) → AreJumps message jumps → length jumps ≡ offset → target < offset
    → run_from 0 offset (drop offset message) ≡ ended (Ok (Pointer offset target)) → IsJump message offset (get_or jumps target 0)
unfolding run_at
jump_further message jumps offset target all count before is =
    let next : IsJump message target (get_or jumps target 0) = all.each target (omega arith) in
    record {
      before = omega (arith, next.before);
      same = λ start at below. jump_once message offset target start at below before is ∙ next.same start at (omega arith);
    }

-- one more jump
pub jumps_added : (message jumps : List ℕ) (offset jump : ℕ) → AreJumps message jumps → length jumps ≡ offset → IsJump message offset jump → AreJumps message (jumps ++ jump ∷ [])
jumps_added message jumps offset jump all count last = record { each = at }
  where
    at : (i : ℕ) → i < length (jumps ++ jump ∷ []) → IsJump message i (get_or (jumps ++ jump ∷ []) i 0)
    at i low =
        elim (cases_Bool (ltb i (length jumps))) [
          | inl e ↦ let below = ltb-true i (length jumps) e in
              subst (IsJump message i) (sym (get_or_append_left jumps (jump ∷ []) 0 i below)) (all.each i below)
          | inr e ↦ let beyond = ltb-false i (length jumps) e in
              let is : i ≡ offset = omega (arith, length-append jumps (jump ∷ [])) in
              subst (λ k. IsJump message k (get_or (jumps ++ jump ∷ []) k 0)) (sym is)
              (subst (IsJump message offset) (sym (get_or_push jumps jump 0 offset count)) last)
        ]

-- where there is no jump from an offset, it is a jump from itself
jump_at : (message jumps : List ℕ) (offset : ℕ) → AreJumps message jumps → IsJump message offset (get_or jumps offset offset)
jump_at message jumps offset all =
    elim (cases_Bool (ltb offset (length jumps))) [
      | inl e ↦ let below = ltb-true offset (length jumps) e in
          subst (IsJump message offset) (get_or_default jumps offset 0 offset below) (all.each offset below)
      | inr e ↦ subst (IsJump message offset) (sym (get_or_past jumps offset offset (ltb-false offset (length jumps) e))) (jump_nowhere message offset)
    ]

pub jump_to : (message jumps : List ℕ) (offset to : ℕ) → AreJumps message jumps → to ≡ get_or jumps offset offset → IsJump message offset to
jump_to message jumps offset to all is = subst (IsJump message offset) (sym is) (jump_at message jumps offset all)
