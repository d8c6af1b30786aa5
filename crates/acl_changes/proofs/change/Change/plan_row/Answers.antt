use Rattle.std.proofs.Common.{◌≡◌, List, length, OnOk, ap, subst, ◌∙◌, arith}
use Rattle.base_rows.specs.declared.edit.Edit.{Edit}
use Rattle.acl_rows.specs.declared.row.Row.{Row}
use Rattle.acl_rows.specs.SortKeys.{named_sort_key}
use Rattle.acl_rows.specs.ByAddress.{rows_of_peer, index_beside, until_of_row}
use Rattle.acl_changes.specs.Touched.{changed_edits}
use Rattle.acl_changes.specs.Change.{ChangeState, expiry_of_row}
use Rattle.acl_changes.specs.Steps.{least_step}
use Rattle.acl_changes.proofs.change.Change.plan_row.Goals as goal

pub returns-clause-ok : goal.returns-clause-ok
unfolding expiry_of_row until_of_row
returns-clause-ok g c =
    let key = c.args.key in
    let index = c.find_counted-found.ensures.index ∙ ap (λ (s : ChangeState). index_beside key.owner key.side key.addr (named_sort_key key) s.rows) c.self.view_is in
    let until = c.find_counted-found.ensures.until ∙ ap (λ (s : ChangeState). until_of_row (named_sort_key key) s.rows) c.self.view_is in
    subst (λ (rows : List (Edit Row)). OnOk c.plan_found.result (c.plan_found.new.edits.rows ≡ rows))
    (λ i. changed_edits key (index i) (until i) c.args.until c.args.edits.now.rows)
    c.plan_found.ensures

pub returns-clause-least : goal.returns-clause-least
unfolding least_step
returns-clause-least g c =
    let key = c.args.key in
    let own = ap (λ (s : ChangeState). length (rows_of_peer key.owner key.side key.addr s.rows)) c.self.view_is in
    omega (arith, own, c.find_counted-found.ensures.least)
