use Rattle.std.proofs.Common.{arith}
use Rattle.base_rows.proofs.EditRunLaws.{all_made, made_none, made_more}
use Rattle.base_rows.proofs.edit.make_edits_from.Goals as goal

pub loop-rows-init : goal.loop-rows-init
loop-rows-init g c = record {
  made = made_none g.R.Sortable.sort_key c.args.edits.now.rows c.args.rows.now.rows;
  found = c.requires.found;
  start = c.requires.start;
  room = omega arith;
  counted = omega arith;
}

pub loop-rows-preserved : goal.loop-rows-preserved
loop-rows-preserved g c = record {
  made = made_more g.R.Sortable.sort_key c.args.edits.now.rows c.loop-rows.edits.rows c.make_run.new.edits.rows c.args.rows.now.rows c.loop-rows.rows.rows c.make_run.new.rows.rows c.loop-rows.invariant.made c.make_run.ensures.made;
  found = c.make_run.ensures.found;
  start = c.make_run.ensures.start;
  room = omega (arith, c.make_run.ensures.room, c.loop-rows.invariant.room);
  counted = omega (arith, c.make_run.ensures.counted, c.loop-rows.invariant.counted);
}

pub returns-clause-rows : goal.returns-clause-rows
returns-clause-rows g c =
    (all_made g.R.Sortable.sort_key c.args.edits.now.rows c.loop-rows.edits.rows c.args.rows.now.rows c.loop-rows.rows.rows c.args.start c.loop-rows.invariant.made (omega (arith, c.loop-rows.invariant.start, c.loop-rows-test.false, c.len.ensures))).rows

pub returns-clause-left : goal.returns-clause-left
returns-clause-left g c =
    (all_made g.R.Sortable.sort_key c.args.edits.now.rows c.loop-rows.edits.rows c.args.rows.now.rows c.loop-rows.rows.rows c.args.start c.loop-rows.invariant.made (omega (arith, c.loop-rows.invariant.start, c.loop-rows-test.false, c.len.ensures))).left
