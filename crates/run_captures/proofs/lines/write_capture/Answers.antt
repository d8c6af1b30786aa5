use Rattle.std.proofs.Common.{rules, ◌≡◌, [], ◌∙◌}
use Rattle.run_captures.specs.Runs.{HasDone}
use Rattle.run_captures.proofs.Done.{has_done_none}
use Rattle.run_captures.proofs.Folded.{taken_at_first}
use Rattle.run_captures.proofs.lines.write_capture.Goals as goal

pub returns-in-Err-Failed-clause-taken : goal.returns-in-Err-Failed-clause-taken
returns-in-Err-Failed-clause-taken g c = λ s keeps tells changed.
    taken_at_first g.L.PacketLines.step s (g.D.Door.view c.args.door.now).state (g.D.Door.view c.begin.new.door).state (c.in-Err-Failed.ensures.part tells)

pub returns-clause-part : goal.returns-clause-part
returns-clause-part g c = λ s keeps tells which.
    let first = (g.D.Door.view c.args.door.now).state in
    let empty : c.empty-lines.result ≡ [] = search rules in
    let start : HasDone [] [] c.in-Ok.reader first (g.D.Door.view c.begin.new.door).state c.empty-lines.result =
    rw empty (has_done_none c.in-Ok.reader first (g.D.Door.view c.begin.new.door).state (c.in-Ok.ensures.begun tells)) in
    c.write_packets.ensures.part s first keeps tells start which

pub returns-clause-taken : goal.returns-clause-taken
returns-clause-taken g c = λ s keeps tells changed.
    let first = (g.D.Door.view c.args.door.now).state in
    let empty : c.empty-lines.result ≡ [] = search rules in
    let start : HasDone [] [] c.in-Ok.reader first (g.D.Door.view c.begin.new.door).state c.empty-lines.result =
    rw empty (has_done_none c.in-Ok.reader first (g.D.Door.view c.begin.new.door).state (c.in-Ok.ensures.begun tells)) in
    let steady : (g.D.Door.view c.begin.new.door).reads ≡ (g.D.Door.view c.args.door.now).reads = search rules in
    c.write_packets.ensures.taken s first keeps tells start (λ same. changed (same ∙ steady))
