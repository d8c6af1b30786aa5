use Rattle.std.proofs.Common.{◌≤◌, length, ap, sym, ◌∙◌, arith}
use Rattle.std.specs.Option.{option_map}
use Rattle.run_reports.specs.Export.Sources.{is_held}
use Rattle.run_reports.proofs.ExportLaws.Things.{thing_here, thing_later, no_thing_left}
use Rattle.run_reports.proofs.export.sources.held_of.Goals as goal

pub things-preserved : goal.things-preserved
things-preserved c =
    thing_later c.args.mac c.args.things.now c.things.thing-index c.thing-item.result c.things-test.true c.thing-item.is (sym c.is_of.ensures ∙ c.if-is_of.false) ∙ c.things.invariant

pub returns-then-is_of : goal.returns-then-is_of
unfolding is_held
returns-then-is_of c =
    ap (option_map is_held) (sym (thing_here c.args.mac c.args.things.now c.things.thing-index c.thing-item.result c.things-test.true c.thing-item.is (sym c.is_of.ensures ∙ c.if-is_of.true)) ∙ c.things.invariant)

pub returns : goal.returns
unfolding is_held
returns c =
    let past : length c.args.things.now ≤ c.things.thing-index = omega (arith, c.things-test.false) in
    ap (option_map is_held) (sym (no_thing_left c.args.mac c.args.things.now c.things.thing-index past) ∙ c.things.invariant)
