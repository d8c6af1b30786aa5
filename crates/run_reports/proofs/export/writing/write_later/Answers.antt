use Rattle.std.proofs.Common.{refl, rules}
use Rattle.text_values.specs.Lists.{behind_comma}
use Rattle.rule_export.specs.Text.{resolved_text}
use Rattle.run_common.proofs.Written.{on_err, none_yet, one_more, part_of}
use Rattle.run_reports.proofs.export.writing.write_later.Goals as goal

pub items-init : goal.items-init
items-init g c = record {
  written = λ tells. none_yet (behind_comma (resolved_text c.args.view.now c.args.family)) c.args.items.now (g.D.Door.view c.args.door.now).state;
  writes = refl;
  turns = refl;
  reads = refl;
}

pub items-preserved : goal.items-preserved
items-preserved g c = record {
  written = λ tells. one_more (behind_comma (resolved_text c.args.view.now c.args.family)) c.args.items.now c.items.item-index c.item-item.result (g.D.Door.view c.args.door.now).state (g.D.Door.view c.items.door).state (g.D.Door.view c.write_item.new.door).state
      c.items-test.true c.item-item.is (c.items.invariant.written tells) (c.in_ok-write_item.ensures.ok tells);
  writes = search rules;
  turns = search rules;
  reads = search rules;
}

pub returns-in_err-write_item-clause-part : goal.returns-in_err-write_item-clause-part
returns-in_err-write_item-clause-part g c = λ tells. on_err c.from_residual.result
    (part_of (behind_comma (resolved_text c.args.view.now c.args.family)) c.args.items.now c.items.item-index c.item-item.result (g.D.Door.view c.args.door.now).state (g.D.Door.view c.items.door).state (g.D.Door.view c.write_item.new.door).state
    c.items-test.true c.item-item.is (c.items.invariant.written tells) (c.in_err-write_item.ensures.part tells))
