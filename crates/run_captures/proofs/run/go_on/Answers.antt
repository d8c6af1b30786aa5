use Rattle.std.proofs.Common.{rules, ◌≡◌, false, []}
use Rattle.mud_world.specs.Whole.{WrotePart}
use Rattle.mud_world.proofs.Doors.{took_none}
use Rattle.run_captures.specs.Fault.{is_read_fault}
use Rattle.run_common.specs.Output.{WroteFront}
use Rattle.run_captures.proofs.Done.{goes_on, has_broken, has_done_less, wrote_none, wrote_part}
use Rattle.run_captures.proofs.run.go_on.Goals as goal

pub returns-then-is_err-clause-led : goal.returns-then-is_err-clause-led
returns-then-is_err-clause-led g c = λ packets text first tells p.
    let s = (g.D.Door.view c.args.door.now).state in
    let u = (g.D.Door.view c.write_before.new.door).state in
    let part : WrotePart c.args.lines.now s u = search rules in
    wrote_part packets text c.args.reader.now first s s c.args.lines.now p u [] (took_none s) part

pub returns-in-Ok-true-clause-led : goal.returns-in-Ok-true-clause-led
returns-in-Ok-true-clause-led g c = λ packets text first tells p.
    let s = (g.D.Door.view c.write_before.new.door).state in
    let front : WroteFront c.args.lines.now c.write_before.new.lines (g.D.Door.view c.args.door.now).state s = search rules in
    let now = has_done_less packets text c.args.reader.now first (g.D.Door.view c.args.door.now).state s c.args.lines.now c.write_before.new.lines p front in
    goes_on packets text c.args.reader.now first s (g.D.Door.view c.advance.new.source).state c.write_before.new.lines now c.advance.new.self (c.in-Ok-true.ensures.next tells) (search rules)

pub returns-then-is_read_fault-clause-led : goal.returns-then-is_read_fault-clause-led
returns-then-is_read_fault-clause-led g c = λ packets text first tells p.
    let s = (g.D.Door.view c.write_before.new.door).state in
    let front : WroteFront c.args.lines.now c.write_before.new.lines (g.D.Door.view c.args.door.now).state s = search rules in
    let now = has_done_less packets text c.args.reader.now first (g.D.Door.view c.args.door.now).state s c.args.lines.now c.write_before.new.lines p front in
    let q = c.in-Err.ensures.fault tells in
    wrote_none packets text c.args.reader.now first s (g.D.Door.view c.advance.new.source).state c.write_before.new.lines now q.octets q.took

pub returns-else-is_read_fault-clause-led : goal.returns-else-is_read_fault-clause-led
returns-else-is_read_fault-clause-led g c = λ packets text first tells p.
    let s = (g.D.Door.view c.write_before.new.door).state in
    let front : WroteFront c.args.lines.now c.write_before.new.lines (g.D.Door.view c.args.door.now).state s = search rules in
    let now = has_done_less packets text c.args.reader.now first (g.D.Door.view c.args.door.now).state s c.args.lines.now c.write_before.new.lines p front in
    let other : is_read_fault c.in-Err.fault ≡ false = search rules in
    has_broken packets text c.args.reader.now first s (g.D.Door.view c.advance.new.source).state c.write_before.new.lines now c.in-Err.fault (c.in-Err.ensures.fault tells) other
