use Rattle.acl_rows.proofs.GroupEdits.{lent_rows}
use Rattle.acl_rows.proofs.by_address.AddressRows.rows_at.Goals as goal

pub returns-clause-rows : goal.returns-clause-rows
returns-clause-rows g c =
    let s = c.self.inside in
    lent_rows s.owner s.side c.args.addr s.groups c.self.invariant s.limit c.args.self.now c.self.view_is c.rows_at.result.now c.rows_at.ensures.rows
