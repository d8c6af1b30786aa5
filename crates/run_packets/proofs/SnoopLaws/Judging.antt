-- A packet that is judged and learnt from.
use Rattle.std.proofs.Common.{◌≡◌, ℕ, Bool, List, [], ◌∷◌, ◌++◌, length, take, refl, subst, ap, ◌∙◌, arith, append_assoc}
use Rattle.std.specs.Prelude.{option_map}
use Rattle.table_model.specs.declared.bind.ClassRow.{ClassRow}
use Rattle.frame_view.specs.Frame.{frame_of}
use Rattle.read_buffer.specs.Packets.{Packet}
use Rattle.packet_judge.specs.declared.verdict.Verdict.{Verdict}
use Rattle.desk_model.specs.declared.reply.Reply.{Reply}
use Rattle.desk_model.specs.Sessions.{Session, Runs, frame_in}
use Rattle.mud_desk.specs.DeskState.{DeskState, tables_of, session_of}
use Rattle.run_desk.specs.Judged.{judged_line, judged_packet}
use Rattle.dns_snoop.specs.Messages.{answers_of}
use Rattle.run_packets.specs.Snoop.Entries.{Heard, Entry, calls_of, heard_lines, entry_lines}
use Rattle.run_packets.specs.Snoop.Learning.{heard_in}
use Rattle.run_packets.specs.Snoop.Learnt.{Learns, LearnsFirst}
use Rattle.run_packets.specs.Snoop.Packets.{session_behind, IsJudgedIn, GoesOn, StopsAt}
use Rattle.desk_model.proofs.Parts.{judged}

module _ (s : Session) (packet : Packet) (verdict : Verdict) (middle : DeskState) (after : Session) (verdict_is : verdict ≡ (judged_packet s packet).verdict) (in_middle : session_of middle ≡ session_behind s packet)
    (heard : Heard) (heard_is : heard ≡ option_map answers_of (heard_in (tables_of middle).tables.classes (frame_of packet.octets) verdict)) where
  classes_are : (tables_of middle).tables.classes ≡ s.desk.tables.classes
  unfolding session_of frame_in
  classes_are = ap (λ (t : Session). t.desk.tables.classes) in_middle

  moment_is : middle.moment ≡ (session_behind s packet).moment
  unfolding session_of
  moment_is = ap (λ (t : Session). t.moment) in_middle

  abbrev entry_with : List Reply → Entry
  entry_with replies = record { packet = packet; verdict = verdict; heard = heard; replies = replies }

  judged_in : (replies : List Reply) → IsJudgedIn s (entry_with replies)
  judged_in replies = record {
    verdict = verdict_is;
    heard = heard_is ∙ ap (λ (classes : List ClassRow). option_map answers_of (heard_in classes (frame_of packet.octets) verdict)) classes_are;
  }

  pub goes_on : (now : ℕ) (old mid new : List ℕ) (f g : ℕ) (failed : Bool) → now ≡ middle.moment → mid ≡ old ++ judged_line packet verdict
      → Learns now heard (session_of middle) after mid new f g failed
      → GoesOn packet s after old new f g failed
  unfolding entry_lines
  goes_on now old mid new f g failed at line l = record {
    entry = entry_with l.replies;
    packet_is = refl;
    may = record {
      judged = judged_in l.replies;
      run = subst (λ (begun : Session). Runs begun (calls_of (session_behind s packet).moment heard) l.replies after) in_middle
          (subst (λ (m : ℕ). Runs (session_of middle) (calls_of m heard) l.replies after) (at ∙ moment_is) l.run);
      told = l.told;
    };
    added = l.added ∙ ap (λ (front : List ℕ). front ++ heard_lines heard l.replies) line ∙ append_assoc old (judged_line packet verdict) (heard_lines heard l.replies);
    failed_is = l.failed_is;
    paid = l.paid;
  }

  pub stops_at : (now : ℕ) (f g : ℕ) → now ≡ middle.moment
      → LearnsFirst now heard (session_of middle) after f g
      → StopsAt packet s after f g
  stops_at now f g at l = record {
    last = entry_with l.replies ∷ [];
    rest = [];
    packets_are = refl;
    stopped = record {
      judged = judged_in l.replies;
      run = subst (λ (begun : Session). Runs begun (take (length l.replies) (calls_of (session_behind s packet).moment heard)) l.replies after) in_middle
          (subst (λ (m : ℕ). Runs (session_of middle) (take (length l.replies) (calls_of m heard)) l.replies after) (at ∙ moment_is) l.run);
      told = l.told;
    };
    paid = omega (arith, l.paid);
  }
