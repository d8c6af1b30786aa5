use Rattle.std.proofs.Common.{◌+◌, ◌≤◌, length, rules, arith, ap, ◌∙◌, length-drop}
use Rattle.std.proofs.lemmas.List.{take_rest}
use Rattle.mud_world.specs.Door.{DoorState}
use Rattle.mud_world.proofs.Doors.{put_out_further}
use Rattle.mud_world.proofs.whole.say.Goals as goal

pub loop-at-preserved : goal.loop-at-preserved
loop-at-preserved g c =
    let line = c.args.line.now in
    let rest = take_rest line c.loop-at.at in
    let within : c.loop-at.at + c.in_ok-at.field-0 ≤ length line =
    omega (arith, rw (take_rest, length-drop) at c.in_ok-at.ensures.within) in
    record {
      wrote = λ t. put_out_further line _ _ _ _ _ _ rest (c.loop-at.invariant.wrote t) (c.in_ok-at.ensures.octets t);
      nowhere = λ t e.
          let none = c.in_ok-at.ensures.nowhere t (ap (λ (s : DoorState). s.stands) (c.loop-at.invariant.wrote t) ∙ e) in
          absurd (omega (arith, length-drop c.loop-at.at line, ap length rest, ap length none));
      within = within;
      writes = search rules;
      turns = search rules;
      reads = search rules;
    }
