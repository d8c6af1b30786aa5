-- What a step over a state has made of the packets read so far, and what that comes to at each way out.
use Rattle.std.proofs.Common.{◌≡◌, false, IsTrue, ℕ, List, [], ◌∷◌, ◌++◌, Option, Some, refl, rules, sym, ap, ◌∙◌, append_assoc, subst, ◌⊎◌, inl, inr, Result, Ok, Err, is_err, OnOk, OnErr}
use Rattle.mud_world.specs.Door.{DoorState, with_left, put_out}
use Rattle.mud_world.specs.Whole.{TookPart}
use Rattle.mud_world.proofs.Doors.{put_out_none}
use Rattle.read_buffer.specs.Packets.{Packet, with_all}
use Rattle.run_captures.specs.Captures.{Captures, captured_of}
use Rattle.run_captures.specs.Reading.{packet_at, to_come}
use Rattle.run_captures.specs.declared.fault.CaptureFault.{CaptureFault}
use Rattle.run_captures.specs.declared.reader.CaptureReader.{CaptureReader}
use Rattle.run_captures.proofs.Runs.{captured_all, none_in_few}
use Rattle.run_common.specs.Output.{Output, WritesOutput, WritesPart}
use Rattle.run_captures.specs.Capture.{output_behind, output_of_capture, end_line, text_of, WritesTaken}
use Rattle.run_captures.specs.Fold.{LineStep, lines_from, state_after, IsLeftBy}
use Rattle.run_captures.specs.Runs.{HasAll, HasDone, HasGoneOn, WroteSome, WroteTaken}
use Rattle.run_captures.proofs.Done.{has_done_more}
use Rattle.run_captures.proofs.Ends.{part_of_some, part_of_done}
use Rattle.run_captures.proofs.Folds.{lines_of_append, lines_of_next, state_of_next}

-- The text that was made of the packets is their lines, and what is kept is the state behind them.
pub record HasWritten {S : Type 0} (keeps : S → Type 0) (step : S → Packet → LineStep S) (from : S) (reader : CaptureReader) (first now : DoorState) (lines : List ℕ) : Type 0 where
  pub packets : List Packet
  pub kept : keeps (state_after step from packets)
  pub done : HasDone packets (lines_from step from packets) reader first now lines

pub on_ok : {A E : Type 0} (r : Result A E) (P : Type 0) → is_err r ≡ false → OnOk r P → P
on_ok (Ok value) P e p = p
on_ok (Err error) P e p = cc

pub on_err : {A E : Type 0} (r : Result A E) (P : Type 0) → IsTrue (is_err r) → OnErr r P → P
on_err (Ok value) P e p = absurd (search rules)
on_err (Err error) P e p = p

-- ---- What is kept

-- one packet more leaves this
pub left_more : {S : Type 0} (keeps keeps' : S → Type 0) (step : S → Packet → LineStep S) (s : S) (packet : Packet) → IsLeftBy keeps step s
    → ((at : S) → keeps at → keeps' (step at packet).next) → IsLeftBy keeps' step s
left_more keeps keeps' step s packet p next = record {
  packets = p.packets ++ packet ∷ [];
  kept = subst keeps' (state_of_next step s (state_after step s p.packets) p.packets packet refl) (next (state_after step s p.packets) p.kept);
}

left_either : {S : Type 0} (keeps : S → Type 0) (step : S → Packet → LineStep S) (s : S) (packets : List Packet) (packet : Packet)
    → (keeps (state_after step s packets) ⊎ keeps (step (state_after step s packets) packet).next) → IsLeftBy keeps step s
left_either keeps step s packets packet (inl kept) = record { packets = packets; kept = kept }
left_either keeps step s packets packet (inr kept) = record {
  packets = packets ++ packet ∷ [];
  kept = subst keeps (state_of_next step s (state_after step s packets) packets packet refl) kept;
}

-- the packet leaves this, or it isn't counted
pub left_err : {S : Type 0} (keeps keeps' : S → Type 0) (step : S → Packet → LineStep S) (s : S) (packet : Packet) → IsLeftBy keeps step s
    → ((at : S) → keeps at → keeps' at ⊎ keeps' (step at packet).next) → IsLeftBy keeps' step s
left_err keeps keeps' step s packet p still = left_either keeps' step s p.packets packet (still (state_after step s p.packets) p.kept)

pub left_none : {S : Type 0} (keeps : S → Type 0) (step : S → Packet → LineStep S) (s : S) → keeps s → IsLeftBy keeps step s
left_none keeps step s p = record { packets = []; kept = p }

-- ---- What was written

pub has_written_none : {S : Type 0} (keeps : S → Type 0) (step : S → Packet → LineStep S) (from : S) (reader : CaptureReader) (first now : DoorState) (lines : List ℕ)
    → keeps from → HasDone [] [] reader first now lines → HasWritten keeps step from reader first now lines
has_written_none keeps step from reader first now lines kept p = record { packets = []; kept = kept; done = p }

-- the line of the packet at which the reader stands was added
pub has_written_more : {S : Type 0} (keeps keeps' : S → Type 0) (step : S → Packet → LineStep S) (from : S) (old new : CaptureReader) (first s t : DoorState) (lines lines' lines'' : List ℕ) (packet : Packet)
    → (p : HasWritten keeps step from old first s lines) → HasGoneOn p.packets (lines_from step from p.packets) new first t lines' → packet_at new ≡ Some packet
    → keeps' (step (state_after step from p.packets) packet).next → lines'' ≡ lines' ++ (step (state_after step from p.packets) packet).line
    → HasWritten keeps' step from new first t lines''
has_written_more keeps keeps' step from old new first s t lines lines' lines'' packet p q is kept longer =
    let at = state_after step from p.packets in
    let line = (step at packet).line in
    let same : q.packet ≡ packet = cc in
    let done : HasDone (p.packets ++ packet ∷ []) (lines_from step from p.packets) new first t lines' =
    subst (λ (here : Packet). HasDone (p.packets ++ here ∷ []) (lines_from step from p.packets) new first t lines') same q.done in
    rw longer (record {
      packets = p.packets ++ packet ∷ [];
      kept = subst keeps' (state_of_next step from at p.packets packet refl) kept;
      done = subst (λ (text : List ℕ). HasDone (p.packets ++ packet ∷ []) text new first t (lines' ++ line)) (sym (lines_of_next step from at p.packets packet refl))
          (has_done_more (p.packets ++ packet ∷ []) (lines_from step from p.packets) new first t lines' line done);
    })

-- ---- The ways out

module _ {S : Type 0} (step : S → Packet → LineStep S) (ending : S → List ℕ) (from : S) where
  -- The output begins with the lines of the first packets.
  output_begins : (packets : List Packet) (later : Captures) → (rest : List ℕ)
      × ((output_behind (text_of step ending from (with_all packets later).all) (with_all packets later).fault).text ≡ lines_from step from packets ++ rest)
  output_begins packets later =
      let behind = lines_from step (state_after step from packets) later.all in
      let last = ending (state_after step from (packets ++ later.all)) in (
        behind ++ last ++ end_line later.fault,
        ap (λ (lines : List ℕ). lines ++ last ++ end_line later.fault) (lines_of_append step from packets later.all)
            ∙ ap (λ (lines : List ℕ). lines ++ end_line later.fault) (append_assoc (lines_from step from packets) behind last)
            ∙ append_assoc (lines_from step from packets) (behind ++ last) (end_line later.fault),
      )

  output_begins_at : (packets : List Packet) (later captures : Captures) → captures ≡ with_all packets later → (rest : List ℕ)
      × ((output_behind (text_of step ending from captures.all) captures.fault).text ≡ lines_from step from packets ++ rest)
  output_begins_at packets later captures is =
      subst (λ (all : Captures). (rest : List ℕ) × ((output_behind (text_of step ending from all.all) all.fault).text ≡ lines_from step from packets ++ rest)) (sym is) (output_begins packets later)

  begins : (packets : List Packet) (reader : CaptureReader) (first now : DoorState) (lines : List ℕ) → HasDone packets (lines_from step from packets) reader first now lines
      → (rest : List ℕ) × ((output_of_capture step ending from first.left).text ≡ lines_from step from packets ++ rest)
  begins packets reader first now lines p =
      output_begins_at packets (to_come reader now.left) (captured_of first.left) (captured_all packets reader first (with_left now.left first) p.read)

  -- a read or a write failed
  pub part_at_failure : (packets : List Packet) (reader : CaptureReader) (first s t : DoorState) (lines : List ℕ) → HasDone packets (lines_from step from packets) reader first s lines
      → WroteSome (lines_from step from packets) first t → WritesPart (output_of_capture step ending from first.left) first t
  part_at_failure packets reader first s t lines p w =
      let rest = begins packets reader first s lines p in
      part_of_some (output_of_capture step ending from first.left) (lines_from step from packets) rest.0 first t w rest.1

  -- memory was wanted for the line of a packet
  pub part_at_packet : (packets : List Packet) (reader new : CaptureReader) (first s t : DoorState) (lines lines' : List ℕ) → HasDone packets (lines_from step from packets) reader first s lines
      → HasGoneOn packets (lines_from step from packets) new first t lines' → WritesPart (output_of_capture step ending from first.left) first t
  part_at_packet packets reader new first s t lines lines' p q =
      let rest = begins packets reader first s lines p in
      part_of_done (output_of_capture step ending from first.left) (packets ++ q.packet ∷ []) (lines_from step from packets) rest.0 new first t lines' q.done rest.1

  -- The capture was read to its end, or to the fault that ends it.
  module _ (packets : List Packet) (end : Option CaptureFault) (first s t : DoorState) (lines : List ℕ) (p : HasAll packets (lines_from step from packets) end first s lines) where
    same_output : output_behind (lines_from step from packets ++ ending (state_after step from packets)) end ≡ output_of_capture step ending from first.left
    same_output = sym (ap (λ (captures : Captures). output_behind (text_of step ending from captures.all) captures.fault) p.all)

    pub output_at_end : (status : ℕ) → WritesOutput (output_behind (lines_from step from packets ++ ending (state_after step from packets)) end) first t status
        → WritesOutput (output_of_capture step ending from first.left) first t status
    output_at_end status w = subst (λ (output : Output). WritesOutput output first t status) same_output w

    pub part_at_end : WritesPart (output_behind (lines_from step from packets ++ ending (state_after step from packets)) end) first t
        → WritesPart (output_of_capture step ending from first.left) first t
    part_at_end w = subst (λ (output : Output). WritesPart output first t) same_output w

-- ---- Where the source failed

module _ {S : Type 0} (step : S → Packet → LineStep S) (from : S) where
  pub taken_at_failure : (packets : List Packet) (first t : DoorState) → WroteTaken packets (lines_from step from packets) first t → WritesTaken step from first t
  taken_at_failure packets first t w = record {
    read = w.read;
    left_is = w.left_is;
    door_is = w.door_is ∙ ap (λ (all : List Packet). put_out (lines_from step from all) (with_left t.left first)) (sym w.all);
  }

  -- behind so few octets that no packet is in them
  pub taken_at_first : (first t : DoorState) → TookPart 4 first t → WritesTaken step from first t
  taken_at_first first t w = record {
    read = w.octets;
    left_is = w.took.left;
    door_is = w.took.rest ∙ sym (put_out_none (with_left t.left first))
        ∙ ap (λ (all : List Packet). put_out (lines_from step from all) (with_left t.left first)) (sym (none_in_few w.octets w.within));
  }
