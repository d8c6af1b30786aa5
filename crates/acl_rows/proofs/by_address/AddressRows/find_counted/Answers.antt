use Rattle.std.proofs.Common.{◌≡◌, ◌<◌, ◌^◌, List, length, refl, ap, sym, subst, ◌∙◌, arith}
use Rattle.base_rows.specs.Sortable.{index_in}
use Rattle.acl_rows.specs.declared.row.Row.{Row}
use Rattle.acl_rows.specs.SortKeys.{row_sort_key, named_sort_key}
use Rattle.acl_rows.specs.ByAddress.{until_of_row}
use Rattle.acl_rows.specs.Groups.{part_at}
use Rattle.acl_rows.proofs.GroupEdits.{lent_rows, lent_few}
use Rattle.acl_rows.proofs.by_address.AddressRows.find_counted.Goals as goal

pub returns-clause-index : goal.returns-clause-index
returns-clause-index g c =
    let s = c.self.inside in
    let key = c.args.key.now in
    c.find_counted.ensures.index
    ∙ ap (index_in row_sort_key (named_sort_key key)) (lent_rows s.owner s.side key.addr s.groups c.self.invariant s.limit c.args.self.now c.self.view_is (part_at key.addr s.groups).rows refl)

pub returns-clause-until : goal.returns-clause-until
returns-clause-until g c =
    let s = c.self.inside in
    let key = c.args.key.now in
    c.find_counted.ensures.until
    ∙ ap (until_of_row (named_sort_key key)) (lent_rows s.owner s.side key.addr s.groups c.self.invariant s.limit c.args.self.now c.self.view_is (part_at key.addr s.groups).rows refl)

pub returns-clause-least : goal.returns-clause-least
returns-clause-least g c =
    let s = c.self.inside in
    let key = c.args.key.now in
    let is = ap length (lent_rows s.owner s.side key.addr s.groups c.self.invariant s.limit c.args.self.now c.self.view_is (part_at key.addr s.groups).rows refl) in
    omega (arith, is, c.find_counted.ensures.least)

pub returns-clause-most : goal.returns-clause-most
returns-clause-most g c =
    let s = c.self.inside in
    let key = c.args.key.now in
    let few = lent_few s.owner s.side key.addr s.groups c.self.invariant s.limit c.args.self.now c.self.view_is (part_at key.addr s.groups).rows refl in
    λ b fits. c.find_counted.ensures.most b (omega (arith, few, fits))
