-- The steps of the wide entries that are tested, and of the parts of a view, by the parts that it lends.
use Rattle.std.proofs.Common.{◌≡◌, ℕ, suc, ◌+◌, ◌^◌, ◌≤◌, ◌<◌, Bool, cond, List, ◌∷◌, length, drop, get_or, Option, Some, sym, ap, subst, ◌∙◌, arith}
use Rattle.std.specs.Prelude.{find}
use Rattle.std.proofs.Math.Seq.{drop-cons}
use Rattle.acl_rows.specs.View.{Part}
use Rattle.packet_judge.specs.ByRows.{Asked}
use Rattle.packet_judge.specs.RuleSteps.{tested, part_steps, file_steps, IsFoundWithin}

-- one entry more is tested, and the others only where it doesn't pass
pub next_tested : (test : ℕ → Bool) (ns : List ℕ) (i : ℕ) (b : Bool) → i < length ns → b ≡ test (get_or ns i 0) → tested test (drop i ns) ≡ cond b 1 (tested test (drop (i + 1) ns) + 1)
unfolding tested
next_tested test ns i b lt is =
    ap (tested test) (drop-cons ns i 0 lt ∙ (λ j. get_or ns i 0 ∷ drop (next j) ns))
    ∙ ap (λ (c : Bool). cond c 1 (tested test (drop (i + 1) ns) + 1)) (sym is)
  where
    next : suc i ≡ i + 1
    next = omega arith

pub next_found : (test : ℕ → Bool) (ns : List ℕ) (i : ℕ) (b : Bool) → i < length ns → b ≡ test (get_or ns i 0) → find test (drop i ns) ≡ cond b (Some (get_or ns i 0)) (find test (drop (i + 1) ns))
next_found test ns i b lt is =
    ap (find test) (drop-cons ns i 0 lt ∙ (λ j. get_or ns i 0 ∷ drop (next j) ns))
    ∙ ap (λ (c : Bool). cond c (Some (get_or ns i 0)) (find test (drop (i + 1) ns))) (sym is)
  where
    next : suc i ≡ i + 1
    next = omega arith

-- the steps of a part are within its bound
abbrev pub TakesPart : Asked → ℕ → ℕ → Part → Type 0
TakesPart asked start end part = (b : ℕ) → part.among < 2 ^ b → end ≤ start + part_steps asked b part

own_file : (asked : Asked) (start end : ℕ) (part : Part) → TakesPart asked start end part → (b : ℕ) → IsFoundWithin b (Some part) → end ≤ start + file_steps asked b (Some part)
unfolding file_steps
own_file asked start end part takes = takes

pub file_takes : (asked : Asked) (start end : ℕ) (part : Part) (file : Option Part) → Some part ≡ file → TakesPart asked start end part → (b : ℕ) → IsFoundWithin b file → end ≤ start + file_steps asked b file
file_takes asked start end part file is takes = subst (λ (o : Option Part). (b : ℕ) → IsFoundWithin b o → end ≤ start + file_steps asked b o) is (own_file asked start end part takes)

pub part_takes : (asked : Asked) (start end : ℕ) (lent part : Part) → lent ≡ part → TakesPart asked start end lent → TakesPart asked start end part
part_takes asked start end lent part is takes = subst (TakesPart asked start end) is takes
