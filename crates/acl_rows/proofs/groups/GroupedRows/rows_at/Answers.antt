use Rattle.std.proofs.Common.{◌∙◌}
use Rattle.acl_rows.proofs.GroupEdits.{lent_there, missed_there}
use Rattle.acl_rows.proofs.groups.GroupedRows.rows_at.Goals as goal

pub returns-in-Some-clause-rows : goal.returns-in-Some-clause-rows
returns-in-Some-clause-rows g c = c.rows.ensures.rows ∙ lent_there c.new-at.result c.args.addr c.new-at.ensures c.self.inside.map.entries c.args.self.now c.in-Some.rows.now c.self.view_is c.in-Some.ensures.value

pub returns-in-None-clause-rows : goal.returns-in-None-clause-rows
returns-in-None-clause-rows g c = missed_there c.new-at.result c.args.addr c.new-at.ensures c.self.inside.map.entries c.args.self.now c.self.view_is c.in-None.ensures.value
