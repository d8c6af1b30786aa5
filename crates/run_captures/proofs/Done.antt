-- How far a command is that reads a capture: at its beginning, behind what it writes and adds, behind a packet, and at each end.
use Rattle.std.proofs.Common.{◌≡◌, ◌⊎◌, inl, inr, IsTrue, IfSome, true, false, ℕ, ◌+◌, ◌≤◌, List, [], ◌++◌, length, take, Option, Some, None, is_some, refl, rules, arith, sym, ap, ◌∙◌, append_assoc, append-nil}
use Rattle.std.proofs.lemmas.Bool.{false≢true}
use Rattle.std.proofs.lemmas.List.{length-append}
use Rattle.std.proofs.Math.Seq.{take-append-add}
use Rattle.mud_world.specs.Door.{DoorState, Took, with_left, put_out}
use Rattle.mud_world.specs.Whole.{WrotePart}
use Rattle.mud_world.proofs.Doors.{put_out_twice, put_out_none}
use Rattle.read_buffer.specs.Packets.{Packet, broken, with_next, with_all}
use Rattle.read_buffer.specs.Reading.{Follows}
use Rattle.run_captures.specs.Fault.{is_cut, is_read_fault}
use Rattle.run_captures.specs.Reading.{AtEnd, EndsIn, HasRead, packet_at, to_come}
use Rattle.run_captures.specs.declared.fault.CaptureFault.{CaptureFault}
use Rattle.run_captures.specs.declared.reader.CaptureReader.{CaptureReader}
use Rattle.run_captures.proofs.Runs.{has_read_more, captured_all}
use Rattle.run_common.specs.Output.{WroteFront}
use Rattle.run_captures.specs.Runs.{HasAll, HasDone, HasGoneOn, WroteSome}

-- nothing was written since
with_same : (octets : List ℕ) (s t : DoorState) → Took octets s t → (written : List ℕ) (first : DoorState) → s ≡ put_out written (with_left s.left first) → t ≡ put_out written (with_left t.left first)
with_same octets s t q written first wrote = q.rest ∙ ap (with_left t.left) wrote

-- ---- At the beginning

pub has_done_none : (reader : CaptureReader) (first now : DoorState) → HasRead [] reader first now → HasDone [] [] reader first now []
has_done_none reader first now p = record {
  written = [];
  read = record { octets = p.octets; took = record { left = p.took.left; rest = refl }; same = p.same };
  split = refl;
  wrote = p.took.rest ∙ sym (put_out_none (with_left now.left first));
}

-- ---- Behind what is written and added

pub has_done_less : (packets : List Packet) (text : List ℕ) (reader : CaptureReader) (first s t : DoorState) (lines rest : List ℕ)
    → HasDone packets text reader first s lines → WroteFront lines rest s t → HasDone packets text reader first t rest
has_done_less packets text reader first s t lines rest p w = rw w.wrote (record {
  written = p.written ++ w.front;
  read = p.read;
  split = p.split ∙ ap (λ (more : List ℕ). p.written ++ more) w.split ∙ sym (append_assoc p.written w.front rest);
  wrote = ap (put_out w.front) p.wrote ∙ put_out_twice p.written w.front (with_left s.left first);
})

-- octets are added to the lines
pub has_done_more : (packets : List Packet) (text : List ℕ) (reader : CaptureReader) (first now : DoorState) (lines octets : List ℕ)
    → HasDone packets text reader first now lines → HasDone packets (text ++ octets) reader first now (lines ++ octets)
has_done_more packets text reader first now lines octets p = record {
  written = p.written;
  read = p.read;
  split = ap (λ (front : List ℕ). front ++ octets) p.split ∙ append_assoc p.written lines octets;
  wrote = p.wrote;
}

pub has_all_more : (packets : List Packet) (text : List ℕ) (end : Option CaptureFault) (first now : DoorState) (lines octets : List ℕ)
    → HasAll packets text end first now lines → HasAll packets (text ++ octets) end first now (lines ++ octets)
has_all_more packets text end first now lines octets p = record {
  read = p.read;
  written = p.written;
  all = p.all;
  left_is = p.left_is;
  split = ap (λ (front : List ℕ). front ++ octets) p.split ∙ append_assoc p.written lines octets;
  wrote = p.wrote;
}

module _ (packets : List Packet) (text : List ℕ) (reader : CaptureReader) (first s t : DoorState) (lines : List ℕ) (p : HasDone packets text reader first s lines) where
  left_behind : (octets : List ℕ) → Took octets s t → first.left ≡ (p.read.octets ++ octets) ++ t.left
  left_behind octets q =
      p.read.took.left ∙ ap (λ (left : List ℕ). p.read.octets ++ left) q.left ∙ sym (append_assoc p.read.octets octets t.left)

  -- ---- Behind a packet

  pub has_gone_on : (new : CaptureReader) (packet : Packet) → Follows (to_come reader) (λ more. with_next (packet_at new) (to_come new more)) s t
      → packet_at new ≡ Some packet → HasGoneOn packets text new first t lines
  has_gone_on new packet q is = record {
    packet = packet;
    here = is;
    done = record {
      written = p.written;
      read = has_read_more packets packet reader new first (with_left s.left first) (with_left t.left first) p.read
          (record { octets = q.octets; took = record { left = q.took.left; rest = refl }; same = q.same }) is;
      split = p.split;
      wrote = with_same q.octets s t q.took p.written first p.wrote;
    };
  }

  some_packet : (next : Option Packet) → true ≡ is_some next → (packet : Packet) × (next ≡ Some packet)
  some_packet None e = cc
  some_packet (Some packet) e = (packet, refl)

  pub goes_on : (new : CaptureReader) → Follows (to_come reader) (λ more. with_next (packet_at new) (to_come new more)) s t → true ≡ is_some (packet_at new)
      → HasGoneOn packets text new first t lines
  goes_on new q is = let here = some_packet (packet_at new) is in has_gone_on new here.0 q here.1

  -- ---- At the ends

  has_all : (octets : List ℕ) → Took octets s t → (end : Option CaptureFault) → to_come reader s.left ≡ record { all = []; fault = end } → HasAll packets text end first t lines
  has_all octets q end is = record {
    read = p.read.octets ++ octets;
    written = p.written;
    all = captured_all packets reader first (with_left s.left first) p.read ∙ ap (with_all packets) is ∙ ap (λ (all : List Packet). record { all = all; fault = end }) (append-nil packets);
    left_is = left_behind octets q;
    split = p.split;
    wrote = with_same octets s t q p.written first p.wrote;
  }

  pub has_ended : (new : CaptureReader) → Follows (to_come reader) (λ more. with_next (packet_at new) (to_come new more)) s t → packet_at new ≡ None → AtEnd new t
      → HasAll packets text None first t lines
  has_ended new q is e =
      has_all q.octets q.took None
      (ap (to_come reader) q.took.left ∙ q.same t.left ∙ ap (λ (next : Option Packet). with_next next (to_come new t.left)) is ∙ ap (to_come new) e.left ∙ e.ended)

  pub has_broken : (fault : CaptureFault) → EndsIn fault (to_come reader) s t → is_read_fault fault ≡ false → HasAll packets text (Some fault) first t lines
  has_broken fault q other = has_all q.octets q.took (Some fault) (ap (to_come reader) q.took.left ∙ comes q.cause)
    where
      comes : (to_come reader (q.octets ++ t.left) ≡ broken fault) ⊎ (IsTrue (is_read_fault fault) × IfSome (to_come reader q.octets).fault (λ found. IsTrue (is_cut found))) → to_come reader (q.octets ++ t.left) ≡ broken fault
      comes (inl here) = here
      comes (inr failed) = absurd (false≢true (sym other ∙ failed.0))

  some_here : (octets : List ℕ) → Took octets s t → (count : ℕ) → count ≤ length lines → WroteSome text first (put_out (take count lines) t)
  some_here octets q count within =
      let written : List ℕ = p.written in
      let front : take (length written + count) text ≡ written ++ take count lines =
      ap (take (length written + count)) p.split ∙ take-append-add written lines count in
      record {
        read = p.read.octets ++ octets;
        count = length written + count;
        within = rw p.split (omega (arith, length-append written lines, within));
        left_is = left_behind octets q;
        door_is = ap (put_out (take count lines)) (with_same octets s t q p.written first p.wrote)
            ∙ put_out_twice written (take count lines) (with_left t.left first)
            ∙ ap (λ (wrote : List ℕ). put_out wrote (with_left t.left first)) (sym front);
      }

  -- nothing more was written
  pub wrote_none : (octets : List ℕ) → Took octets s t → WroteSome text first t
  wrote_none octets q = rw (sym (put_out_none t)) (some_here octets q 0 (search rules))

  -- a part of the lines was written
  pub wrote_part : (u : DoorState) (octets : List ℕ) → Took octets s t → WrotePart lines t u → WroteSome text first u
  wrote_part u octets q w = rw w.wrote (some_here octets q w.count (omega (arith, w.part)))
