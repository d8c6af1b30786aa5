-- Captures that hold the same packets are judged alike.
use Rattle.std.proofs.Common.{◌≡◌, ℕ, List, ◌++◌, ap, ap₂, ◌∙◌}
use Rattle.std.specs.Prelude.{codes, decimal}
use Rattle.read_buffer.specs.Packets.{Packet}
use Rattle.run_captures.specs.Same.{HoldTheSame}
use Rattle.run_captures.specs.Fold.{LineStep, LooksAtNoOffset, no_ending}
use Rattle.run_captures.proofs.SamePackets.{output_same}
use Rattle.text_values.specs.Numbers.{number_text}
use Rattle.packet_judge.specs.declared.verdict.Verdict.{Verdict}
use Rattle.desk_model.specs.Texts.Verdicts.{verdict_text}
use Rattle.desk_model.specs.DeskTables.{DeskTables}
use Rattle.desk_model.specs.Sessions.{Session, opened, frame_in}
use Rattle.run_desk.specs.Judged.{judged_line, judged_step}
use Rattle.run_desk.specs.Store.{judged_output}

line_made : Verdict → ℕ → ℕ → List ℕ
line_made verdict number seconds = decimal number ++ number_text seconds ++ codes " " ++ verdict_text verdict ++ codes "\n"

pub line_alike : (verdict : Verdict) (p q : Packet) → p.number ≡ q.number → p.seconds ≡ q.seconds → judged_line p verdict ≡ judged_line q verdict
unfolding judged_line line_made
line_alike verdict p q number seconds = ap₂ (λ (n m : ℕ). line_made verdict n m) number seconds

made : Session → ℕ → ℕ → List ℕ → LineStep Session
made session number seconds octets = record {
  line = decimal number ++ number_text seconds ++ codes " " ++ verdict_text (frame_in session seconds octets).verdict ++ codes "\n";
  next = (frame_in session seconds octets).session;
}

-- the offset isn't looked at
offsetless : LooksAtNoOffset judged_step
unfolding judged_line made
offsetless session p q number seconds octets =
    ap (λ (n : ℕ). made session n p.seconds p.octets) number ∙ ap₂ (λ (n : ℕ) (l : List ℕ). made session q.number n l) seconds octets

pub judged_alike : (tables : DeskTables) (one other : List ℕ) → HoldTheSame one other → judged_output tables one ≡ judged_output tables other
judged_alike tables one other same = output_same judged_step no_ending offsetless (opened tables) one other same
