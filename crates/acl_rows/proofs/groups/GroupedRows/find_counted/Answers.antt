use Rattle.std.proofs.Common.{ap, length, ◌∙◌, arith}
use Rattle.base_rows.specs.Sortable.{index_in}
use Rattle.acl_rows.specs.SortKeys.{row_sort_key, named_sort_key}
use Rattle.acl_rows.specs.ByAddress.{until_of_row}
use Rattle.acl_rows.proofs.GroupEdits.{lent_there, missed_there}
use Rattle.acl_rows.proofs.groups.GroupedRows.find_counted.Goals as goal

pub returns-in-Some-clause-index : goal.returns-in-Some-clause-index
returns-in-Some-clause-index g c =
    let key = c.args.key.now in
    c.found_in.ensures.index
    ∙ ap (index_in row_sort_key (named_sort_key key)) (lent_there c.new-at.result key.addr c.new-at.ensures c.self.inside.map.entries c.args.self.now c.in-Some.rows.now c.self.view_is c.in-Some.ensures.value)

pub returns-in-Some-clause-until : goal.returns-in-Some-clause-until
returns-in-Some-clause-until g c =
    let key = c.args.key.now in
    c.found_in.ensures.until
    ∙ ap (until_of_row (named_sort_key key)) (lent_there c.new-at.result key.addr c.new-at.ensures c.self.inside.map.entries c.args.self.now c.in-Some.rows.now c.self.view_is c.in-Some.ensures.value)

pub returns-in-Some-clause-least : goal.returns-in-Some-clause-least
returns-in-Some-clause-least g c =
    let is = ap length (lent_there c.new-at.result c.args.key.now.addr c.new-at.ensures c.self.inside.map.entries c.args.self.now c.in-Some.rows.now c.self.view_is c.in-Some.ensures.value) in
    omega (arith, is, c.found_in.ensures.least)

pub returns-in-Some-clause-most : goal.returns-in-Some-clause-most
returns-in-Some-clause-most g c =
    let is = ap length (lent_there c.new-at.result c.args.key.now.addr c.new-at.ensures c.self.inside.map.entries c.args.self.now c.in-Some.rows.now c.self.view_is c.in-Some.ensures.value) in
    λ b fits. c.found_in.ensures.most b (omega (arith, is, fits))

pub returns-in-None-clause-index : goal.returns-in-None-clause-index
returns-in-None-clause-index g c =
    let key = c.args.key.now in
    ap (index_in row_sort_key (named_sort_key key)) (missed_there c.new-at.result key.addr c.new-at.ensures c.self.inside.map.entries c.args.self.now c.self.view_is c.in-None.ensures.value)

pub returns-in-None-clause-until : goal.returns-in-None-clause-until
unfolding until_of_row
returns-in-None-clause-until g c =
    let key = c.args.key.now in
    ap (until_of_row (named_sort_key key)) (missed_there c.new-at.result key.addr c.new-at.ensures c.self.inside.map.entries c.args.self.now c.self.view_is c.in-None.ensures.value)

pub returns-in-None-clause-least : goal.returns-in-None-clause-least
returns-in-None-clause-least g c =
    let is = ap length (missed_there c.new-at.result c.args.key.now.addr c.new-at.ensures c.self.inside.map.entries c.args.self.now c.self.view_is c.in-None.ensures.value) in
    omega (arith, is)
