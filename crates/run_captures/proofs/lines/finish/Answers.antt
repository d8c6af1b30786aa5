use Rattle.std.proofs.Common.{rules, ◌≡◌, ◌++◌}
use Rattle.run_captures.specs.Runs.{HasAll}
use Rattle.run_captures.proofs.Done.{has_all_more}
use Rattle.run_captures.proofs.Ends.{part_of_none}
use Rattle.run_captures.proofs.Folded.{on_ok}
use Rattle.run_captures.proofs.lines.finish.Goals as goal

pub returns-then-is_err-clause-part : goal.returns-then-is_err-clause-part
returns-then-is_err-clause-part g c = λ s packets text first kept tells p which.
    part_of_none packets text c.args.fault first (g.D.Door.view c.args.door.now).state c.args.lines.now p (g.L.PacketLines.ending s)

pub returns-clause-done : goal.returns-clause-done
returns-clause-done g c = λ s packets text first kept tells p which.
    let last = g.L.PacketLines.ending s in
    let longer : c.append_last.new.lines ≡ c.args.lines.now ++ last = on_ok c.append_last.result (c.append_last.new.lines ≡ c.args.lines.now ++ last) (search rules) (c.append_last.ensures s kept) in
    let now : HasAll packets (text ++ last) c.args.fault first (g.D.Door.view c.args.door.now).state c.append_last.new.lines =
    rw longer (has_all_more packets text c.args.fault first (g.D.Door.view c.args.door.now).state c.args.lines.now last p) in
    c.end_capture.ensures.done packets (text ++ last) first tells now which

pub returns-clause-part : goal.returns-clause-part
returns-clause-part g c = λ s packets text first kept tells p which.
    let last = g.L.PacketLines.ending s in
    let longer : c.append_last.new.lines ≡ c.args.lines.now ++ last = on_ok c.append_last.result (c.append_last.new.lines ≡ c.args.lines.now ++ last) (search rules) (c.append_last.ensures s kept) in
    let now : HasAll packets (text ++ last) c.args.fault first (g.D.Door.view c.args.door.now).state c.append_last.new.lines =
    rw longer (has_all_more packets text c.args.fault first (g.D.Door.view c.args.door.now).state c.args.lines.now last p) in
    c.end_capture.ensures.part packets (text ++ last) first tells now which
