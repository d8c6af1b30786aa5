-- How far a run is that judges packets and learns from them, and what that comes to at each way out.
use Rattle.std.proofs.Common.{◌≡◌, ℕ, ◌+◌, Bool, true, false, ◌||◌, List, [], ◌∷◌, ◌++◌, take, if◌then◌else◌, Option, Some, refl, sym, subst, ap, ap₂, ◌∙◌, arith, append_assoc, append-nil}
use Rattle.std.specs.Prelude.{nat_lt}
use Rattle.std.proofs.lemmas.List.{map-append}
use Rattle.mud_world.specs.Causes.{RoseBy}
use Rattle.mud_world.specs.Door.{DoorState, with_left, put_out}
use Rattle.mud_world.specs.Whole.{TookPart}
use Rattle.mud_world.proofs.Doors.{put_out_none}
use Rattle.read_buffer.specs.Packets.{Packet, with_all}
use Rattle.run_captures.specs.Captures.{captured_of}
use Rattle.run_captures.specs.Reading.{packet_at, to_come}
use Rattle.run_captures.specs.declared.fault.CaptureFault.{CaptureFault}
use Rattle.run_captures.specs.declared.reader.CaptureReader.{CaptureReader}
use Rattle.run_captures.proofs.Runs.{captured_all, none_in_few}
use Rattle.run_captures.specs.Capture.{output_behind, end_line, status_at}
use Rattle.run_captures.specs.Runs.{HasAll, HasDone, HasGoneOn, WroteSome, WroteTaken}
use Rattle.run_captures.proofs.Done.{has_done_more}
use Rattle.run_captures.proofs.Ends.{part_of_some, part_of_done}
use Rattle.run_common.specs.Output.{WritesOutput, WritesPart}
use Rattle.desk_model.specs.Sessions.{Session}
use Rattle.run_packets.specs.Snoop.Entries.{Entry, packets_of, entry_lines, lines_of, failures, keeper_count, status_with}
use Rattle.run_packets.specs.Snoop.Packets.{SnoopsPacket, Snoops, GoesOn, StopsAt}
use Rattle.run_packets.specs.Snoop.Runs.{scene, tail_of, SnoopsAll, SnoopsPart, SnoopsTaken}
use Rattle.run_packets.proofs.SnoopLaws.LearntRows.{either_count}
use Rattle.run_packets.proofs.Parts.{packet_in}

-- ---- Entries one after the other

packets_append : (es fs : List Entry) → packets_of (es ++ fs) ≡ packets_of es ++ packets_of fs
packets_append es fs = map-append packet_in es fs

lines_append : (es fs : List Entry) → lines_of (es ++ fs) ≡ lines_of es ++ lines_of fs
lines_append [] fs = refl
lines_append (e ∷ es) fs = ap (λ (more : List ℕ). entry_lines e ++ more) (lines_append es fs) ∙ sym (append_assoc (entry_lines e) (lines_of es) (lines_of fs))

count_append : (es fs : List Entry) → keeper_count (es ++ fs) ≡ keeper_count es + keeper_count fs
count_append [] fs = omega arith
count_append (e ∷ es) fs = omega (arith, count_append es fs)

snoops_append : (a : Session) (es : List Entry) (b : Session) → Snoops a es b → (e : Entry) (c : Session) → SnoopsPacket b e c → Snoops a (es ++ e ∷ []) c
snoops_append a [] b run e c may = (c, subst (λ (s : Session). SnoopsPacket s e c) run may, refl)
snoops_append a (d ∷ es) b run e c may = (run.0, run.1, snoops_append run.0 es b run.2 e c may)

-- ---- How far a run is

-- The packets that were read are those of entries, which lead to this session, and their lines are the text that was made.
pub record HasSnooped (before : Session) (first : DoorState) (faults : ℕ) (after : Session) (now : DoorState) (faults_now : ℕ) (reader : CaptureReader) (lines : List ℕ) (failed : Bool) : Type 0 where
  pub entries : List Entry
  pub run : Snoops before entries after
  pub done : HasDone (packets_of entries) (lines_of entries) reader first now lines
  pub failed_is : failed ≡ nat_lt 0 (keeper_count entries)
  pub paid : RoseBy (keeper_count entries) faults faults_now

module _ (s : Session) (first : DoorState) (f : ℕ) (after : Session) (now : DoorState) (g : ℕ) (reader : CaptureReader) (lines : List ℕ) (failed : Bool) (p : HasSnooped s first f after now g reader lines failed) where
  -- the packet at which the reader stands was judged and learnt from
  pub snooped_more : (new : CaptureReader) (later : DoorState) (lines' lines'' : List ℕ) (packet : Packet) (after' : Session) (h : ℕ) (one either : Bool)
      → HasGoneOn (packets_of p.entries) (lines_of p.entries) new first later lines' → packet_at new ≡ Some packet
      → GoesOn packet after after' lines' lines'' g h one → either ≡ (failed || one)
      → HasSnooped s first f after' later h new lines'' either
  snooped_more new later lines' lines'' packet after' h one either q is on both =
      let same : q.packet ≡ packet = cc in
      let entry : q.packet ≡ on.entry.packet = same ∙ sym on.packet_is in
      let done : HasDone (packets_of p.entries ++ on.entry.packet ∷ []) (lines_of p.entries) new first later lines' =
      subst (λ (here : Packet). HasDone (packets_of p.entries ++ here ∷ []) (lines_of p.entries) new first later lines') entry q.done in
      let line : lines_of p.entries ++ entry_lines on.entry ≡ lines_of (p.entries ++ on.entry ∷ []) =
      sym (lines_append p.entries (on.entry ∷ []) ∙ ap (λ (last : List ℕ). lines_of p.entries ++ last) (append-nil (entry_lines on.entry))) in
      rw on.added (record {
        entries = p.entries ++ on.entry ∷ [];
        run = snoops_append s p.entries after p.run on.entry after' on.may;
        done = subst (λ (text : List ℕ). HasDone (packets_of (p.entries ++ on.entry ∷ [])) text new first later (lines' ++ entry_lines on.entry)) line
            (subst (λ (packets : List Packet). HasDone packets (lines_of p.entries ++ entry_lines on.entry) new first later (lines' ++ entry_lines on.entry)) (sym (packets_append p.entries (on.entry ∷ [])))
            (has_done_more (packets_of p.entries ++ on.entry.packet ∷ []) (lines_of p.entries) new first later lines' (entry_lines on.entry) done));
        failed_is =
            both ∙ ap₂ (λ (x y : Bool). x || y) p.failed_is on.failed_is ∙ either_count (keeper_count p.entries) (failures on.entry.replies)
            ∙ ap (λ (k : ℕ). nat_lt 0 k) (counted p.entries on.entry);
        paid = omega (arith, p.paid, on.paid, counted p.entries on.entry);
      })
    where
      counted : (es : List Entry) (e : Entry) → keeper_count es + failures e.replies ≡ keeper_count (es ++ e ∷ [])
      counted es e = omega (arith, count_append es (e ∷ []))

  -- ---- The ways out

  -- some packets are to come, or none
  later_packets : captured_of first.left ≡ with_all (packets_of p.entries) (to_come reader now.left)
  later_packets = captured_all (packets_of p.entries) reader first (with_left now.left first) p.done.read

  no_last : lines_of (p.entries ++ []) ≡ lines_of p.entries
  no_last = ap lines_of (append-nil p.entries)

  paid_so : RoseBy (keeper_count (p.entries ++ [])) f g
  paid_so = omega (arith, p.paid, count_append p.entries [])

  -- a read or a write failed
  pub part_at_failure : (t : DoorState) → WroteSome (lines_of p.entries) first t → SnoopsPart (scene s first f) (scene after t g)
  part_at_failure t w =
      let rest = (to_come reader now.left).all in
      let end = (to_come reader now.left).fault in
      record {
        said = p.entries;
        last = [];
        rest = rest;
        end = end;
        captured = later_packets;
        reached = after;
        run = p.run;
        stopped = refl;
        wrote = part_of_some (record { text = lines_of (p.entries ++ []) ++ tail_of rest end; status = status_with (keeper_count (p.entries ++ [])) (status_at end) })
            (lines_of p.entries) (tail_of rest end) first t w (ap (λ (text : List ℕ). text ++ tail_of rest end) no_last);
        paid = paid_so;
      }

  pub taken_at_failure : (t : DoorState) → WroteTaken (packets_of p.entries) (lines_of p.entries) first t → SnoopsTaken (scene s first f) (scene after t g)
  taken_at_failure t w = record { entries = p.entries; run = p.run; wrote = w; paid = p.paid }

  -- memory was wanted at a packet
  pub part_at_packet : (new : CaptureReader) (t : DoorState) (lines' : List ℕ) (packet : Packet) (after' : Session) (h : ℕ)
      → HasGoneOn (packets_of p.entries) (lines_of p.entries) new first t lines' → packet_at new ≡ Some packet → StopsAt packet after after' g h
      → SnoopsPart (scene s first f) (scene after' t h)
  part_at_packet new t lines' packet after' h q is stop =
      let same : q.packet ≡ packet = cc in
      let later : List Packet = (to_come new t.left).all in
      let end = (to_come new t.left).fault in
      let rest : List Packet = stop.rest ++ later in
      let tail : List ℕ = tail_of (packets_of stop.last ++ rest) end in
      let all : (packets_of p.entries ++ q.packet ∷ []) ++ later ≡ packets_of p.entries ++ (packets_of stop.last ++ rest) =
      append_assoc (packets_of p.entries) (q.packet ∷ []) later
      ∙ ap (λ (here : List Packet). packets_of p.entries ++ (here ++ later)) (ap (λ (one : Packet). one ∷ []) same ∙ sym stop.packets_are)
      ∙ ap (λ (behind : List Packet). packets_of p.entries ++ behind) (append_assoc (packets_of stop.last) stop.rest later) in
      record {
        said = p.entries;
        last = stop.last;
        rest = rest;
        end = end;
        captured =
            captured_all (packets_of p.entries ++ q.packet ∷ []) new first (with_left t.left first) q.done.read
            ∙ ap (λ (packets : List Packet). record { all = packets; fault = end }) all;
        reached = after;
        run = p.run;
        stopped = stop.stopped;
        wrote = part_of_done (record { text = lines_of (p.entries ++ stop.last) ++ tail; status = status_with (keeper_count (p.entries ++ stop.last)) (status_at end) })
            (packets_of p.entries ++ q.packet ∷ []) (lines_of p.entries) (lines_of stop.last ++ tail) new first t lines' q.done
            (ap (λ (text : List ℕ). text ++ tail) (lines_append p.entries stop.last) ∙ append_assoc (lines_of p.entries) (lines_of stop.last) tail);
        paid = omega (arith, p.paid, stop.paid, count_append p.entries stop.last);
      }

  -- The capture was read to its end, or to the fault that ends it.
  module _ (end : Option CaptureFault) (t : DoorState) (lines' : List ℕ) (q : HasAll (packets_of p.entries) (lines_of p.entries) end first t lines') where
    status_behind : (status result : ℕ) → status ≡ status_at end → (failed ≡ false → result ≡ status) → (failed ≡ true → result ≡ 7) → result ≡ status_with (keeper_count p.entries) (status_at end)
    status_behind status result is kept seven = by failed refl
      where
        by : (b : Bool) → failed ≡ b → result ≡ status_with (keeper_count p.entries) (status_at end)
        by false e = kept e ∙ is ∙ sym (ap (λ (b : Bool). if b then 7 else status_at end) (sym p.failed_is ∙ e))
        by true e = seven e ∙ sym (ap (λ (b : Bool). if b then 7 else status_at end) (sym p.failed_is ∙ e))

    pub all_at_end : (u : DoorState) (status result : ℕ) → WritesOutput (output_behind (lines_of p.entries) end) first u status → (failed ≡ false → result ≡ status) → (failed ≡ true → result ≡ 7)
        → SnoopsAll (scene s first f) (scene after u g) result
    all_at_end u status result w kept seven = record {
      entries = p.entries;
      end = end;
      captured = q.all;
      run = p.run;
      wrote = record { read = w.read; status_is = status_behind status result w.status_is kept seven; left_is = w.left_is; door_is = w.door_is };
      paid = p.paid;
    }

    pub part_at_end : (u : DoorState) → WritesPart (output_behind (lines_of p.entries) end) first u → SnoopsPart (scene s first f) (scene after u g)
    part_at_end u w = record {
      said = p.entries;
      last = [];
      rest = [];
      end = end;
      captured = q.all ∙ ap (λ (packets : List Packet). record { all = packets; fault = end }) (sym (append-nil (packets_of p.entries)));
      reached = after;
      run = p.run;
      stopped = refl;
      wrote = record {
        read = w.read;
        count = w.count;
        left_is = w.left_is;
        door_is = subst (λ (text : List ℕ). u ≡ put_out (take w.count (text ++ end_line end)) (with_left u.left first)) (sym no_last) w.door_is;
      };
      paid = paid_so;
    }

-- ---- Before the first packet

module _ (s : Session) (first : DoorState) (f : ℕ) (t : DoorState) (w : TookPart 4 first t) where
  pub part_at_first : SnoopsPart (scene s first f) (scene s t f)
  part_at_first = record {
    said = [];
    last = [];
    rest = (captured_of first.left).all;
    end = (captured_of first.left).fault;
    captured = refl;
    reached = s;
    run = refl;
    stopped = refl;
    wrote = record { read = w.octets; count = 0; left_is = w.took.left; door_is = w.took.rest ∙ sym (put_out_none (with_left t.left first)) };
    paid = omega arith;
  }

  pub taken_at_first : SnoopsTaken (scene s first f) (scene s t f)
  taken_at_first = record {
    entries = [];
    run = refl;
    wrote = record { read = w.octets; left_is = w.took.left; all = none_in_few w.octets w.within; door_is = w.took.rest ∙ sym (put_out_none (with_left t.left first)) };
    paid = omega arith;
  }
