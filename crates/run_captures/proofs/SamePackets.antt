-- Captures that hold the same packets lead to the same lines.
use Rattle.std.proofs.Common.{◌≡◌, ℕ, ◌+◌, List, [], ◌∷◌, ◌++◌, map, Option, refl, sym, ap, ap₂, ◌∙◌}
use Rattle.read_buffer.specs.Packets.{Packet}
use Rattle.run_captures.specs.Captures.{captured_of}
use Rattle.run_captures.specs.Same.{Seen, seen_of, HoldTheSame}
use Rattle.run_captures.specs.declared.fault.CaptureFault.{CaptureFault}
use Rattle.run_captures.proofs.Numbered.{IsNumbered, numbered}
use Rattle.run_captures.specs.Capture.{output_behind, output_of_capture}
use Rattle.run_captures.specs.Fold.{LineStep, LooksAtNoOffset, lines_from, state_after}

seen_first : List Seen → Seen → Seen
seen_first [] none = none
seen_first (seen ∷ more) none = seen

seen_rest : List Seen → List Seen
seen_rest [] = []
seen_rest (seen ∷ more) = more

pub first_same : (p q : Packet) (ps qs : List Packet) → map seen_of (p ∷ ps) ≡ map seen_of (q ∷ qs) → seen_of p ≡ seen_of q
unfolding seen_first
first_same p q ps qs same = ap (λ (l : List Seen). seen_first l (seen_of p)) same

pub rest_same : (p q : Packet) (ps qs : List Packet) → map seen_of (p ∷ ps) ≡ map seen_of (q ∷ qs) → map seen_of ps ≡ map seen_of qs
unfolding seen_rest
rest_same p q ps qs same = ap seen_rest same

module _ {S : Type 0} (step : S → Packet → LineStep S) (ending : S → List ℕ) (offsetless : LooksAtNoOffset step) where
  step_same : (s : S) (count : ℕ) (p q : Packet) (ps qs : List Packet) → p.number ≡ count + 1 → q.number ≡ count + 1 → map seen_of (p ∷ ps) ≡ map seen_of (q ∷ qs) → step s p ≡ step s q
  step_same s count p q ps qs first other same =
      let seen = first_same p q ps qs same in
      offsetless s p q (first ∙ sym other) (ap (λ (seen : Seen). seen.seconds) seen) (ap (λ (seen : Seen). seen.octets) seen)

  lines_same : (s : S) (count : ℕ) (ps qs : List Packet) → IsNumbered count ps → IsNumbered count qs → map seen_of ps ≡ map seen_of qs → lines_from step s ps ≡ lines_from step s qs
  lines_same s count [] [] first other same = refl
  lines_same s count [] (q ∷ qs) first other same = cc
  lines_same s count (p ∷ ps) [] first other same = cc
  lines_same s count (p ∷ ps) (q ∷ qs) first other same =
      ap (λ (made : LineStep S). made.line ++ lines_from step made.next ps) (step_same s count p q ps qs first.0 other.0 same)
      ∙ ap (λ (text : List ℕ). (step s q).line ++ text) (lines_same (step s q).next (count + 1) ps qs first.1 other.1 (rest_same p q ps qs same))

  state_same : (s : S) (count : ℕ) (ps qs : List Packet) → IsNumbered count ps → IsNumbered count qs → map seen_of ps ≡ map seen_of qs → state_after step s ps ≡ state_after step s qs
  state_same s count [] [] first other same = refl
  state_same s count [] (q ∷ qs) first other same = cc
  state_same s count (p ∷ ps) [] first other same = cc
  state_same s count (p ∷ ps) (q ∷ qs) first other same =
      ap (λ (made : LineStep S). state_after step made.next ps) (step_same s count p q ps qs first.0 other.0 same)
      ∙ state_same (step s q).next (count + 1) ps qs first.1 other.1 (rest_same p q ps qs same)

  pub output_same : (s : S) (one other : List ℕ) → HoldTheSame one other → output_of_capture step ending s one ≡ output_of_capture step ending s other
  output_same s one other h =
      let ps = (captured_of one).all in
      let qs = (captured_of other).all in
      ap₂ (λ (text : List ℕ) (fault : Option CaptureFault). output_behind text fault)
      (ap₂ (λ (lines : List ℕ) (state : S). lines ++ ending state) (lines_same s 0 ps qs (numbered one) (numbered other) h.same) (state_same s 0 ps qs (numbered one) (numbered other) h.same))
      (h.whole ∙ sym h.other_whole)
