-- The output of a command that reads a capture, and what it has written where it ends.
use Rattle.std.proofs.Common.{◌≡◌, ℕ, ◌+◌, ◌≤◌, List, [], ◌++◌, length, take, Option, refl, sym, ap, ◌∙◌, append_assoc, append-nil, subst}
use Rattle.std.proofs.lemmas.List.{take-append-le, take_at}
use Rattle.std.proofs.Math.Seq.{take-append-add}
use Rattle.mud_world.specs.Door.{DoorState, with_left, put_out}
use Rattle.mud_world.proofs.Doors.{put_out_twice, took_none}
use Rattle.read_buffer.specs.Packets.{Packet}
use Rattle.run_captures.specs.declared.fault.CaptureFault.{CaptureFault}
use Rattle.run_captures.specs.declared.reader.CaptureReader.{CaptureReader}
use Rattle.run_common.specs.Output.{Output, WritesPart, WroteFirst}
use Rattle.run_captures.specs.Capture.{output_behind, end_line}
use Rattle.run_captures.specs.Runs.{HasAll, HasDone, WroteSome}
use Rattle.run_captures.proofs.Done.{wrote_none}

-- a first part of the text is one of the output, where that begins with the text
pub part_of_some : (output : Output) (text more : List ℕ) (first now : DoorState) → WroteSome text first now → output.text ≡ text ++ more → WritesPart output first now
part_of_some output text more first now w is = record {
  read = w.read;
  count = w.count;
  left_is = w.left_is;
  door_is = w.door_is ∙ ap (λ (wrote : List ℕ). put_out wrote (with_left now.left first)) (sym (ap (take w.count) is ∙ take-append-le w.count text more w.within));
}

-- so it is behind each packet
pub part_of_done : (output : Output) (packets : List Packet) (text more : List ℕ) (reader : CaptureReader) (first now : DoorState) (lines : List ℕ) → HasDone packets text reader first now lines
    → output.text ≡ text ++ more → WritesPart output first now
part_of_done output packets text more reader first now lines p is =
    part_of_some output text more first now (wrote_none packets text reader first now now lines p [] (took_none now)) is

module _ (packets : List Packet) (text : List ℕ) (end : Option CaptureFault) (first s : DoorState) (lines : List ℕ) (p : HasAll packets text end first s lines) where
  output_text : (output_behind text end).text ≡ p.written ++ (lines ++ end_line end)
  output_text = ap (λ (front : List ℕ). front ++ end_line end) p.split ∙ append_assoc p.written lines (end_line end)

  left_here : (wrote : List ℕ) → first.left ≡ p.read ++ (put_out wrote s).left
  left_here wrote = p.left_is

  -- a first part of it was written
  part_here : (count : ℕ) → count ≤ length (lines ++ end_line end) → WritesPart (output_behind text end) first (put_out (take count (lines ++ end_line end)) s)
  part_here count within = record {
    read = p.read;
    count = length p.written + count;
    left_is = p.left_is;
    door_is = ap (put_out (take count (lines ++ end_line end))) p.wrote
        ∙ put_out_twice p.written (take count (lines ++ end_line end)) (with_left s.left first)
        ∙ ap (λ (wrote : List ℕ). put_out wrote (with_left s.left first))
        (sym (ap (take (length p.written + count)) output_text ∙ take-append-add p.written (lines ++ end_line end) count));
  }

  -- nothing more was written, and more of the output may be left
  pub part_of_none : (more : List ℕ) → WritesPart (output_behind (text ++ more) end) first s
  part_of_none more =
      let behind : List ℕ = lines ++ more ++ end_line end in
      let output : (output_behind (text ++ more) end).text ≡ p.written ++ behind =
      ap (λ (front : List ℕ). front ++ more ++ end_line end) p.split
      ∙ ap (λ (front : List ℕ). front ++ end_line end) (append_assoc p.written lines more)
      ∙ append_assoc p.written (lines ++ more) (end_line end) in
      record {
        read = p.read;
        count = length p.written;
        left_is = p.left_is;
        door_is = p.wrote ∙ ap (λ (wrote : List ℕ). put_out wrote (with_left s.left first)) (sym (ap (take (length p.written)) output ∙ take_at p.written behind _ refl));
      }

  pub part_here_none : WritesPart (output_behind text end) first s
  part_here_none = subst (λ (whole : List ℕ). WritesPart (output_behind whole end) first s) (append-nil text) (part_of_none [])

  pub part_of_all : (t : DoorState) → WroteFirst (lines ++ end_line end) s t → WritesPart (output_behind text end) first t
  part_of_all t w = rw w.wrote (part_here w.count w.within)
