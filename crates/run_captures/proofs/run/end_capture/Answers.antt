use Rattle.std.proofs.Common.{rules, ◌≡◌, ◌++◌}
use Rattle.run_common.specs.Output.{WroteFirst}
use Rattle.run_captures.specs.Capture.{end_line}
use Rattle.run_captures.proofs.Ends.{part_of_all, part_here_none}
use Rattle.run_captures.proofs.run.end_capture.Goals as goal
use Rattle.run_captures.proofs.run.end_capture.Goals.{in-Some+else-is_err, in_default}

pub returns-then-is_err-clause-part : goal.returns-then-is_err-clause-part
returns-then-is_err-clause-part g c = λ packets text first tells p which.
    part_here_none packets text c.args.fault first (g.D.Door.view c.args.door.now).state c.args.lines.now p

pub returns-in-Err-clause-part : goal.returns-in-Err-clause-part
returns-in-Err-clause-part g c = λ packets text first tells p which.
    let s = (g.D.Door.view c.args.door.now).state in
    let t = (g.D.Door.view c.say.new.door).state in
    let whole : c.octets.result.now ≡ c.args.lines.now ++ end_line c.args.fault =
    elim c.match-fault.branch [ in-Some+else-is_err w ↦ search rules | in_default w ↦ search rules ] in
    let wrote : WroteFirst c.octets.result.now s t = search rules in
    part_of_all packets text c.args.fault first s c.args.lines.now p t (rw (whole) at wrote)
