-- Captures that hold the same packets have the same lines.
use Rattle.std.proofs.Common.{◌≡◌, ℕ, List, ◌++◌, ap, ap₂, ◌∙◌}
use Rattle.std.specs.Prelude.{codes, decimal}
use Rattle.frame_view.specs.Frame.{frame_of}
use Rattle.run_captures.specs.Same.{HoldTheSame}
use Rattle.run_captures.specs.Capture.{output_of_capture}
use Rattle.run_captures.specs.Fold.{LineStep, LooksAtNoOffset, no_ending}
use Rattle.run_captures.proofs.SamePackets.{output_same}
use Rattle.text_values.specs.Numbers.{number_text}
use Rattle.mud_cli.specs.Frames.Lines.{frame_text, packet_line, frame_step}

made : ℕ → ℕ → List ℕ → LineStep (Unit {0})
made number seconds octets = record { line = decimal number ++ number_text seconds ++ frame_text (frame_of octets) ++ codes "\n"; next = tt }

-- the offset isn't looked at
offsetless : LooksAtNoOffset frame_step
unfolding packet_line made
offsetless nothing p q number seconds octets =
    ap (λ (n : ℕ). made n p.seconds p.octets) number ∙ ap₂ (λ (n : ℕ) (l : List ℕ). made q.number n l) seconds octets

pub framed_alike : (one other : List ℕ) → HoldTheSame one other → output_of_capture frame_step no_ending tt one ≡ output_of_capture frame_step no_ending tt other
framed_alike one other same = output_same frame_step no_ending offsetless tt one other same
