-- The line that `judge` writes for each packet of a capture. It ends with a line feed.
use Rattle.std.specs.Prelude.{List, ℕ, ◌++◌, codes, decimal}
use Rattle.read_buffer.specs.Packets.{Packet}
use Rattle.packet_judge.specs.declared.verdict.Verdict.{Verdict}
use Rattle.run_captures.specs.Fold.{LineStep}
use Rattle.text_values.specs.Numbers.{number_text}
use Rattle.desk_model.specs.Texts.Verdicts.{verdict_text}
use Rattle.desk_model.specs.Sessions.{Session, Judged, frame_in}

-- the number and the seconds of a packet, and the verdict on it
unfoldable pub judged_line : Packet → Verdict → List ℕ
judged_line packet verdict = decimal packet.number ++ number_text packet.seconds ++ codes " " ++ verdict_text verdict ++ codes "\n"

-- a packet is judged at its seconds, or at the session's moment where that is later
abbrev pub judged_packet : Session → Packet → Judged
judged_packet session packet = frame_in session packet.seconds packet.octets

-- the line of a packet, and the session after it
abbrev pub judged_step : Session → Packet → LineStep Session
judged_step session packet = record { line = judged_line packet (judged_packet session packet).verdict; next = (judged_packet session packet).session }
