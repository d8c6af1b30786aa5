use Rattle.std.proofs.Common.{◌-◌, ◌++◌, length, slice_get, ap, ◌∙◌, arith}
use mathlib.Core.List.{reverse}
use Rattle.base_rows.proofs.MergeLaws.{ends, rest_ascends, moves_more, moves_rows, drops_row}
use Rattle.base_rows.proofs.sortable.merge.move_greatest.Goals as goal

pub returns-in-Less-clause-joined : goal.returns-in-Less-clause-joined
returns-in-Less-clause-joined g c =
    moves_more g.R.Sortable.sort_key c.args.rows.now.items c.args.more.now.items c.move_last.new.from.items c.args.moved.now.items c.move_last.new.to.items c.requires.ascend c.requires.more c.move_last.ensures.items (λ row other e e'.
    c.in-Less.ensures.order row other (ap (λ l. slice_get l (length l - 1)) c.as_slice.ensures.value ∙ e) (ap (λ l. slice_get l (length l - 1)) c.as_slice-2.ensures.value ∙ e'))

pub returns-in-Less-clause-more : goal.returns-in-Less-clause-more
returns-in-Less-clause-more g c =
    let moved = c.move_last.ensures.items in
    rest_ascends g.R.Sortable.sort_key moved.last c.args.more.now.items c.move_last.new.from.items moved.left c.requires.more

pub returns-in-Greater-clause-joined : goal.returns-in-Greater-clause-joined
returns-in-Greater-clause-joined g c =
    moves_rows g.R.Sortable.sort_key c.args.rows.now.items c.move_last-in-Greater.new.from.items c.args.more.now.items c.args.moved.now.items c.move_last-in-Greater.new.to.items c.requires.more c.move_last-in-Greater.ensures.items (ends c.args.more.now.items (omega arith)) (λ row other e e'.
    c.in-Greater.ensures.order row other (ap (λ l. slice_get l (length l - 1)) c.as_slice.ensures.value ∙ e) (ap (λ l. slice_get l (length l - 1)) c.as_slice-2.ensures.value ∙ e'))

pub returns-in-Greater-clause-ascend : goal.returns-in-Greater-clause-ascend
returns-in-Greater-clause-ascend g c =
    let moved = c.move_last-in-Greater.ensures.items in
    rest_ascends g.R.Sortable.sort_key moved.last c.args.rows.now.items c.move_last-in-Greater.new.from.items moved.left c.requires.ascend

pub returns-in-Equal-clause-joined : goal.returns-in-Equal-clause-joined
returns-in-Equal-clause-joined g c =
    ap (λ l. l ++ reverse c.args.moved.now.items) (drops_row g.R.Sortable.sort_key c.args.rows.now.items c.drop_last.new.rows.items c.args.more.now.items c.requires.ascend c.requires.more c.drop_last.ensures.items (ends c.args.more.now.items (omega arith)) (λ row other e e'.
    c.in-Equal.ensures.order row other (ap (λ l. slice_get l (length l - 1)) c.as_slice.ensures.value ∙ e) (ap (λ l. slice_get l (length l - 1)) c.as_slice-2.ensures.value ∙ e')))

pub returns-in-Equal-clause-ascend : goal.returns-in-Equal-clause-ascend
returns-in-Equal-clause-ascend g c =
    let cut = c.drop_last.ensures.items in
    rest_ascends g.R.Sortable.sort_key cut.last c.args.rows.now.items c.drop_last.new.rows.items cut.left c.requires.ascend

pub returns-in-Less-clause-ascend : goal.returns-in-Less-clause-ascend
returns-in-Less-clause-ascend g c = c.requires.ascend

pub returns-in-Less-clause-moved : goal.returns-in-Less-clause-moved
returns-in-Less-clause-moved g c = c.move_last.ensures.room

pub returns-in-Greater-clause-more : goal.returns-in-Greater-clause-more
returns-in-Greater-clause-more g c = c.requires.more

pub returns-in-Greater-clause-capacity : goal.returns-in-Greater-clause-capacity
returns-in-Greater-clause-capacity g c = c.move_last-in-Greater.ensures.capacity

pub returns-in-Greater-clause-moved : goal.returns-in-Greater-clause-moved
returns-in-Greater-clause-moved g c = c.move_last-in-Greater.ensures.room

pub returns-in-Equal-clause-more : goal.returns-in-Equal-clause-more
returns-in-Equal-clause-more g c = c.requires.more

pub returns-in-Equal-clause-capacity : goal.returns-in-Equal-clause-capacity
returns-in-Equal-clause-capacity g c = c.drop_last.ensures.capacity
