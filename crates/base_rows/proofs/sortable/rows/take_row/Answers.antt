use Rattle.base_rows.proofs.SortableLaws.{removed_row}
use Rattle.base_rows.proofs.sortable.rows.take_row.Goals as goal

pub returns-clause-items : goal.returns-clause-items
returns-clause-items g c = removed_row g.R.Sortable.sort_key c.args.rows.now.items c.remove.new.self.items _ c.args.index c.remove.result c.requires.ascend c.args.rows.now.ok.0 c.requires.in_range c.remove.ensures.value c.remove.ensures.items

pub returns-clause-len : goal.returns-clause-len
returns-clause-len g c = c.remove.ensures.len

pub returns-clause-capacity : goal.returns-clause-capacity
returns-clause-capacity g c = c.remove.ensures.capacity
