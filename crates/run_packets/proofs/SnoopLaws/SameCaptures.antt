-- Captures that hold the same packets lead to the same.
use Rattle.std.proofs.Common.{◌≡◌, ℕ, ◌+◌, List, [], ◌∷◌, ◌++◌, map, Option, refl, sym, subst, ap, ap₂, ◌∙◌, append-nil}
use Rattle.std.specs.Prelude.{option_map}
use Rattle.mud_world.specs.Causes.{RoseBy}
use Rattle.mud_world.specs.Door.{DoorState, with_left, put_out}
use Rattle.read_buffer.specs.Packets.{Packet}
use Rattle.run_captures.specs.Captures.{Captures, captured_of}
use Rattle.run_captures.specs.Same.{Seen, seen_of, HoldTheSame}
use Rattle.run_captures.specs.declared.fault.CaptureFault.{CaptureFault}
use Rattle.run_captures.proofs.Numbered.{IsNumbered, numbered}
use Rattle.run_captures.specs.Capture.{end_line, status_at}
use Rattle.run_captures.proofs.SamePackets.{first_same, rest_same}
use Rattle.desk_model.specs.Sessions.{Session, Judged, Runs, frame_in}
use Rattle.run_desk.specs.Judged.{judged_packet}
use Rattle.run_desk.proofs.SameCaptures.{line_alike}
use Rattle.dns_snoop.specs.Messages.{answers_of}
use Rattle.run_packets.specs.Snoop.Entries.{Entry, packets_of, calls_of, entry_lines, heard_lines, lines_of, failures, keeper_count, status_with}
use Rattle.frame_view.specs.Frame.{frame_of}
use Rattle.run_packets.specs.Snoop.Learning.{heard_in}
use Rattle.run_packets.specs.Snoop.Packets.{SnoopsPacket, Snoops}
use Rattle.run_packets.specs.Snoop.Runs.{scene, output_of_entries, SnoopsAll}

-- the packets differ in their offset alone
record AreAlike (p q : Packet) : Type 0 where
  pub number : p.number ≡ q.number
  pub seconds : p.seconds ≡ q.seconds
  pub octets : p.octets ≡ q.octets

-- the same of another packet
with_packet : Packet → Entry → Entry
with_packet packet entry = record { packet = packet; verdict = entry.verdict; heard = entry.heard; replies = entry.replies }

entry_alike : (entry : Entry) (q : Packet) → AreAlike entry.packet q → entry_lines (with_packet q entry) ≡ entry_lines entry
unfolding entry_lines with_packet
entry_alike entry q alike =
    sym (ap (λ (line : List ℕ). line ++ heard_lines entry.heard entry.replies) (line_alike entry.verdict entry.packet q alike.number alike.seconds))

may_alike : (before after : Session) (entry : Entry) (q : Packet) → AreAlike entry.packet q → SnoopsPacket before entry after → SnoopsPacket before (with_packet q entry) after
unfolding with_packet
may_alike before after entry q alike may =
    let same : judged_packet before entry.packet ≡ judged_packet before q = ap₂ (λ (n : ℕ) (l : List ℕ). frame_in before n l) alike.seconds alike.octets in
    record {
      judged = record {
        verdict = may.judged.verdict ∙ ap (λ (j : Judged). j.verdict) same;
        heard = may.judged.heard ∙ ap (λ (l : List ℕ). option_map answers_of (heard_in before.desk.tables.classes (frame_of l) entry.verdict)) alike.octets;
      };
      run = subst (λ (j : Judged). Runs j.session (calls_of j.session.moment entry.heard) entry.replies after) same may.run;
      told = may.told;
    }

-- a run over these packets that writes and leaves the same
record Likewise (before after : Session) (entries : List Entry) (qs : List Packet) : Type 0 where
  pub others : List Entry
  pub packets : packets_of others ≡ qs
  pub lines : lines_of others ≡ lines_of entries
  pub count : keeper_count others ≡ keeper_count entries
  pub run : Snoops before others after

likewise : (count : ℕ) (before after : Session) (entries : List Entry) (qs : List Packet) → IsNumbered count (packets_of entries) → IsNumbered count qs → map seen_of (packets_of entries) ≡ map seen_of qs
    → Snoops before entries after → Likewise before after entries qs
unfolding with_packet
likewise count before after [] [] first other same run = record { others = []; packets = refl; lines = refl; count = refl; run = run }
likewise count before after [] (q ∷ qs) first other same run = cc
likewise count before after (entry ∷ entries) [] first other same run = cc
likewise count before after (entry ∷ entries) (q ∷ qs) first other same run =
    let seen = first_same entry.packet q (packets_of entries) qs same in
    let alike : AreAlike entry.packet q = record {
      number = first.0 ∙ sym other.0;
      seconds = ap (λ (seen : Seen). seen.seconds) seen;
      octets = ap (λ (seen : Seen). seen.octets) seen;
    } in
    let more = likewise (count + 1) run.0 after entries qs first.1 other.1 (rest_same entry.packet q (packets_of entries) qs same) run.2 in
    behind entry q qs entries before run.0 after alike run.1 more
  where
    behind : (entry : Entry) (q : Packet) (qs : List Packet) (entries : List Entry) (before next after : Session) → AreAlike entry.packet q → SnoopsPacket before entry next → Likewise next after entries qs
        → Likewise before after (entry ∷ entries) (q ∷ qs)
    behind entry q qs entries before next after alike may more = record {
      others = with_packet q entry ∷ more.others;
      packets = ap (λ (packets : List Packet). q ∷ packets) more.packets;
      lines = ap₂ (λ (line lines : List ℕ). line ++ lines) (entry_alike entry q alike) more.lines;
      count = ap (λ (count : ℕ). failures entry.replies + count) more.count;
      run = (next, may_alike before next entry q alike may, more.run);
    }

pub snooped_alike : (one other : List ℕ) (before after : Session) (door now : DoorState) (faults faults_now status : ℕ) → HoldTheSame one other
    → SnoopsAll (scene before (with_left one door) faults) (scene after now faults_now) status
    → SnoopsAll (scene before (with_left other door) faults) (scene after (with_left [] now) faults_now) status
snooped_alike one other before after door now faults faults_now status h p =
    let all_is : (captured_of one).all ≡ packets_of p.entries = ap (λ (c : Captures). c.all) p.captured in
    let end_is : (captured_of one).fault ≡ p.end = ap (λ (c : Captures). c.fault) p.captured in
    let made = likewise 0 before after p.entries (captured_of other).all (subst (λ (l : List Packet). IsNumbered 0 l) all_is (numbered one)) (numbered other)
    (ap (map seen_of) (sym all_is) ∙ h.same) p.run in
    let ended : (captured_of other).fault ≡ p.end = h.other_whole ∙ sym h.whole ∙ end_is in
    let text : (output_of_entries p.entries p.end).text ≡ (output_of_entries made.others p.end).text = sym (ap (λ (l : List ℕ). l ++ end_line p.end) made.lines) in
    record {
      entries = made.others;
      end = p.end;
      captured = ap₂ (λ (all : List Packet) (fault : Option CaptureFault). with_both all fault) (sym made.packets) ended;
      run = made.run;
      wrote = record {
        read = other;
        status_is = p.wrote.status_is ∙ ap (λ (count : ℕ). status_with count (status_at p.end)) (sym made.count);
        left_is = sym (append-nil other);
        door_is = ap (λ (s : DoorState). with_left [] s) p.wrote.door_is ∙ ap (λ (l : List ℕ). put_out l (with_left [] door)) text;
      };
      paid = subst (λ (count : ℕ). RoseBy count faults faults_now) (sym made.count) p.paid;
    }
  where
    with_both : List Packet → Option CaptureFault → Captures
    with_both all fault = record { all = all; fault = fault }
