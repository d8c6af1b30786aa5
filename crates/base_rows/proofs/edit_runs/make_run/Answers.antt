use Rattle.std.proofs.Common.{◌≡◌, ℕ, ◌-◌, ◌<◌, List, length, take, ap, ◌∙◌, arith, length-take-le}
use Rattle.base_rows.proofs.EditRunLaws.{put_lent, taken_lent, last_alone, run_left, alone_left, none_behind}
use Rattle.base_rows.proofs.edit_runs.make_run.Goals as goal

left_of : {A : Type 0} (xs ys : List A) (k : ℕ) → ys ≡ take k xs → k < length xs → length ys ≡ k
left_of xs ys k is below = ap length is ∙ length-take-le k xs (omega arith)

pub put_run_at-requires-clause-index : goal.put_run_at-requires-clause-index
put_run_at-requires-clause-index g c =
    (put_lent g.R.Sortable.sort_key c.args.rows.now.rows c.rows-all.result.now c.args.edits.now.rows c.args.start c.run_start-first.result c.index-all-first.result c.in-true-Err.index c.rows-all.ensures.rows c.rows-ascending.ensures.ascend c.rows-all.ensures.ascend c.run_start-first.ensures.start c.run_start-first.ensures.end c.index-all-first.is c.run_start-first.ensures.run c.requires.found c.in-true-Err.is-0 c.in-true-Err.is-1).within

pub put_run_at-requires-clause-ascend : goal.put_run_at-requires-clause-ascend
put_run_at-requires-clause-ascend g c =
    (put_lent g.R.Sortable.sort_key c.args.rows.now.rows c.rows-all.result.now c.args.edits.now.rows c.args.start c.run_start-first.result c.index-all-first.result c.in-true-Err.index c.rows-all.ensures.rows c.rows-ascending.ensures.ascend c.rows-all.ensures.ascend c.run_start-first.ensures.start c.run_start-first.ensures.end c.index-all-first.is c.run_start-first.ensures.run c.requires.found c.in-true-Err.is-0 c.in-true-Err.is-1).ascend

pub put_run_at-requires-clause-found : goal.put_run_at-requires-clause-found
put_run_at-requires-clause-found g c =
    (put_lent g.R.Sortable.sort_key c.args.rows.now.rows c.rows-all.result.now c.args.edits.now.rows c.args.start c.run_start-first.result c.index-all-first.result c.in-true-Err.index c.rows-all.ensures.rows c.rows-ascending.ensures.ascend c.rows-all.ensures.ascend c.run_start-first.ensures.start c.run_start-first.ensures.end c.index-all-first.is c.run_start-first.ensures.run c.requires.found c.in-true-Err.is-0 c.in-true-Err.is-1).belong

pub take_run_at-requires : goal.take_run_at-requires
take_run_at-requires g c =
    (taken_lent g.R.Sortable.sort_key c.args.rows.now.rows c.rows-all.result.now c.args.edits.now.rows c.args.start c.run_start-first.result c.index-all-first.result c.in-false-Ok.index c.rows-all.ensures.rows c.run_start-first.ensures.start c.run_start-first.ensures.end c.index-all-first.is c.run_start-first.ensures.run c.requires.found c.in-false-Ok.is-0 c.in-false-Ok.is-1).within

pub make_edit-requires-clause-found : goal.make_edit-requires-clause-found
make_edit-requires-clause-found g c =
    (last_alone g.R.Sortable.sort_key c.args.rows.now.rows c.args.edits.now.rows c.take_at.new.self.rows c.take_at.result c.args.start (c.len-last.result - 1) c.rows-all.ensures.ascend (omega (arith, c.requires.start, c.len-last.ensures)) c.take_at.ensures.row c.take_at.ensures.rows c.requires.start c.requires.found).found

pub returns-in-true-Err-clause-made : goal.returns-in-true-Err-clause-made
returns-in-true-Err-clause-made g c =
    (run_left g.R.Sortable.sort_key c.args.edits.now.rows c.put_run_at.new.held.rows c.args.rows.now.rows c.put_run_at.new.self.rows c.args.start c.run_start-first.result c.rows-ascending.ensures.ascend c.rows-all.ensures.ascend c.run_start-first.ensures.start (omega (arith, c.run_start-first.ensures.end, ap length c.rows-all.ensures.rows)) c.put_run_at.ensures.held
    (c.put_run_at.ensures.rows ∙ (put_lent g.R.Sortable.sort_key c.args.rows.now.rows c.rows-all.result.now c.args.edits.now.rows c.args.start c.run_start-first.result c.index-all-first.result c.in-true-Err.index c.rows-all.ensures.rows c.rows-ascending.ensures.ascend c.rows-all.ensures.ascend c.run_start-first.ensures.start c.run_start-first.ensures.end c.index-all-first.is c.run_start-first.ensures.run c.requires.found c.in-true-Err.is-0 c.in-true-Err.is-1).made) c.requires.found).made

pub returns-in-true-Err-clause-found : goal.returns-in-true-Err-clause-found
returns-in-true-Err-clause-found g c =
    (run_left g.R.Sortable.sort_key c.args.edits.now.rows c.put_run_at.new.held.rows c.args.rows.now.rows c.put_run_at.new.self.rows c.args.start c.run_start-first.result c.rows-ascending.ensures.ascend c.rows-all.ensures.ascend c.run_start-first.ensures.start (omega (arith, c.run_start-first.ensures.end, ap length c.rows-all.ensures.rows)) c.put_run_at.ensures.held
    (c.put_run_at.ensures.rows ∙ (put_lent g.R.Sortable.sort_key c.args.rows.now.rows c.rows-all.result.now c.args.edits.now.rows c.args.start c.run_start-first.result c.index-all-first.result c.in-true-Err.index c.rows-all.ensures.rows c.rows-ascending.ensures.ascend c.rows-all.ensures.ascend c.run_start-first.ensures.start c.run_start-first.ensures.end c.index-all-first.is c.run_start-first.ensures.run c.requires.found c.in-true-Err.is-0 c.in-true-Err.is-1).made) c.requires.found).found

pub returns-in-false-Ok-clause-made : goal.returns-in-false-Ok-clause-made
returns-in-false-Ok-clause-made g c =
    (run_left g.R.Sortable.sort_key c.args.edits.now.rows c.take_run_at-in-false-Ok.new.self.rows c.args.rows.now.rows c.take_run_at.new.self.rows c.args.start c.run_start-first.result c.rows-ascending.ensures.ascend c.rows-all.ensures.ascend c.run_start-first.ensures.start (omega (arith, c.run_start-first.ensures.end, ap length c.rows-all.ensures.rows))
    (c.take_run_at-in-false-Ok.ensures.rows ∙ none_behind c.args.edits.now.rows c.run_start-first.result (length c.rows-all.result.now - c.run_start-first.result) (omega (arith, c.run_start-first.ensures.end, ap length c.rows-all.ensures.rows)))
    (c.take_run_at.ensures.rows ∙ (taken_lent g.R.Sortable.sort_key c.args.rows.now.rows c.rows-all.result.now c.args.edits.now.rows c.args.start c.run_start-first.result c.index-all-first.result c.in-false-Ok.index c.rows-all.ensures.rows c.run_start-first.ensures.start c.run_start-first.ensures.end c.index-all-first.is c.run_start-first.ensures.run c.requires.found c.in-false-Ok.is-0 c.in-false-Ok.is-1).made) c.requires.found).made

pub returns-in-false-Ok-clause-found : goal.returns-in-false-Ok-clause-found
returns-in-false-Ok-clause-found g c =
    (run_left g.R.Sortable.sort_key c.args.edits.now.rows c.take_run_at-in-false-Ok.new.self.rows c.args.rows.now.rows c.take_run_at.new.self.rows c.args.start c.run_start-first.result c.rows-ascending.ensures.ascend c.rows-all.ensures.ascend c.run_start-first.ensures.start (omega (arith, c.run_start-first.ensures.end, ap length c.rows-all.ensures.rows))
    (c.take_run_at-in-false-Ok.ensures.rows ∙ none_behind c.args.edits.now.rows c.run_start-first.result (length c.rows-all.result.now - c.run_start-first.result) (omega (arith, c.run_start-first.ensures.end, ap length c.rows-all.ensures.rows)))
    (c.take_run_at.ensures.rows ∙ (taken_lent g.R.Sortable.sort_key c.args.rows.now.rows c.rows-all.result.now c.args.edits.now.rows c.args.start c.run_start-first.result c.index-all-first.result c.in-false-Ok.index c.rows-all.ensures.rows c.run_start-first.ensures.start c.run_start-first.ensures.end c.index-all-first.is c.run_start-first.ensures.run c.requires.found c.in-false-Ok.is-0 c.in-false-Ok.is-1).made) c.requires.found).found

pub returns-in_default-clause-made : goal.returns-in_default-clause-made
returns-in_default-clause-made g c =
    (alone_left g.R.Sortable.sort_key c.args.edits.now.rows c.take_at.new.self.rows c.take_at.result c.args.rows.now.rows c.make_edit.new.rows.rows c.args.start c.rows-ascending.ensures.ascend c.rows-all.ensures.ascend c.requires.start
    (last_alone g.R.Sortable.sort_key c.args.rows.now.rows c.args.edits.now.rows c.take_at.new.self.rows c.take_at.result c.args.start (c.len-last.result - 1) c.rows-all.ensures.ascend (omega (arith, c.requires.start, c.len-last.ensures)) c.take_at.ensures.row c.take_at.ensures.rows c.requires.start c.requires.found)
    c.make_edit.ensures.rows c.requires.found).made

pub returns-in_default-clause-found : goal.returns-in_default-clause-found
returns-in_default-clause-found g c =
    (alone_left g.R.Sortable.sort_key c.args.edits.now.rows c.take_at.new.self.rows c.take_at.result c.args.rows.now.rows c.make_edit.new.rows.rows c.args.start c.rows-ascending.ensures.ascend c.rows-all.ensures.ascend c.requires.start
    (last_alone g.R.Sortable.sort_key c.args.rows.now.rows c.args.edits.now.rows c.take_at.new.self.rows c.take_at.result c.args.start (c.len-last.result - 1) c.rows-all.ensures.ascend (omega (arith, c.requires.start, c.len-last.ensures)) c.take_at.ensures.row c.take_at.ensures.rows c.requires.start c.requires.found)
    c.make_edit.ensures.rows c.requires.found).found

pub run_start-first-requires : goal.run_start-first-requires
run_start-first-requires g c = rw c.rows-all.ensures.rows c.requires.start

pub put_run_at-requires-clause-first : goal.put_run_at-requires-clause-first
put_run_at-requires-clause-first g c = omega (arith, c.run_start-first.ensures.end, ap length c.rows-all.ensures.rows)

pub put_run_at-requires-clause-room : goal.put_run_at-requires-clause-room
put_run_at-requires-clause-room g c = omega (arith, c.requires.room, c.run_start-first.ensures.start)

pub returns-in-true-Err-clause-start : goal.returns-in-true-Err-clause-start
returns-in-true-Err-clause-start g c = omega (arith, c.run_start-first.ensures.start, left_of c.args.edits.now.rows c.put_run_at.new.held.rows c.run_start-first.result c.put_run_at.ensures.held (omega (arith, c.run_start-first.ensures.end, ap length c.rows-all.ensures.rows)))

pub returns-in-true-Err-clause-fewer : goal.returns-in-true-Err-clause-fewer
returns-in-true-Err-clause-fewer g c = omega (arith, c.run_start-first.ensures.end, ap length c.rows-all.ensures.rows, left_of c.args.edits.now.rows c.put_run_at.new.held.rows c.run_start-first.result c.put_run_at.ensures.held (omega (arith, c.run_start-first.ensures.end, ap length c.rows-all.ensures.rows)))

pub returns-in-true-Err-clause-room : goal.returns-in-true-Err-clause-room
returns-in-true-Err-clause-room g c = omega (arith, c.put_run_at.ensures.room, left_of c.args.edits.now.rows c.put_run_at.new.held.rows c.run_start-first.result c.put_run_at.ensures.held (omega (arith, c.run_start-first.ensures.end, ap length c.rows-all.ensures.rows)))

pub returns-in-true-Err-clause-counted : goal.returns-in-true-Err-clause-counted
returns-in-true-Err-clause-counted g c = omega (arith, c.add.ensures, ap length c.rows-all.ensures.rows, c.run_start-first.ensures.end, left_of c.args.edits.now.rows c.put_run_at.new.held.rows c.run_start-first.result c.put_run_at.ensures.held (omega (arith, c.run_start-first.ensures.end, ap length c.rows-all.ensures.rows)))

pub returns-in-false-Ok-clause-start : goal.returns-in-false-Ok-clause-start
returns-in-false-Ok-clause-start g c = omega (arith, c.take_run_at-in-false-Ok.ensures.room, c.take_run_at-in-false-Ok.ensures.space, ap length c.rows-all.ensures.rows, c.run_start-first.ensures.start, c.run_start-first.ensures.end)

pub returns-in-false-Ok-clause-fewer : goal.returns-in-false-Ok-clause-fewer
returns-in-false-Ok-clause-fewer g c = omega (arith, c.take_run_at-in-false-Ok.ensures.room, c.take_run_at-in-false-Ok.ensures.space, ap length c.rows-all.ensures.rows, c.run_start-first.ensures.end)

pub returns-in-false-Ok-clause-room : goal.returns-in-false-Ok-clause-room
returns-in-false-Ok-clause-room g c = omega (arith, c.take_run_at-in-false-Ok.ensures.room, c.take_run_at-in-false-Ok.ensures.space, c.take_run_at.ensures.room)

pub returns-in-false-Ok-clause-counted : goal.returns-in-false-Ok-clause-counted
returns-in-false-Ok-clause-counted g c = omega (arith, c.take_run_at-in-false-Ok.ensures.room, c.take_run_at-in-false-Ok.ensures.space, ap length c.rows-all.ensures.rows, c.run_start-first.ensures.end, c.add-in-false-Ok.ensures)

pub returns-in_default-clause-start : goal.returns-in_default-clause-start
returns-in_default-clause-start g c = omega (arith, c.take_at.ensures.room, c.take_at.ensures.space, c.requires.start)

pub returns-in_default-clause-fewer : goal.returns-in_default-clause-fewer
returns-in_default-clause-fewer g c = omega (arith, c.take_at.ensures.room, c.take_at.ensures.space)

pub returns-in_default-clause-room : goal.returns-in_default-clause-room
returns-in_default-clause-room g c = omega (arith, c.take_at.ensures.room, c.take_at.ensures.space, c.make_edit.ensures.room)

pub returns-in_default-clause-counted : goal.returns-in_default-clause-counted
returns-in_default-clause-counted g c = omega (arith, c.take_at.ensures.room, c.take_at.ensures.space, c.make_edit.ensures.counted)
