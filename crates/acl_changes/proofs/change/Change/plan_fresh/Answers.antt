use Rattle.std.proofs.Common.{◌≡◌, ap, subst, ◌∙◌}
use Rattle.std.proofs.lemmas.Result.{on_ok_weaker}
use Rattle.acl_rows.specs.SortKeys.{named_sort_key}
use Rattle.acl_rows.specs.ByAddress.{index_beside, until_of_row}
use Rattle.acl_rows.specs.Rows.{rows_of}
use Rattle.acl_changes.specs.Touched.{changed_edits}
use Rattle.acl_changes.specs.Change.{ChangeState, expiry_of_row}
use Rattle.acl_changes.specs.Fresh.{Fresh, fresh_of, row_with, expiry_kept}
use Rattle.acl_changes.proofs.FreshLaws.{fresh_is}
use Rattle.acl_changes.proofs.change.Change.plan_fresh.Goals as goal

pub returns-clause-ok : goal.returns-clause-ok
unfolding expiry_of_row until_of_row
returns-clause-ok g c =
    let kept = subst (λ (s : ChangeState). s.rows ≡ rows_of s.slots s.bindings) c.self.view_is c.self.invariant.kept in
    let edits = ap (λ (s : Fresh). s.edits) c.fresh.view_is in
    let rows = ap (λ (s : Fresh). s.rows) c.fresh.view_is in
    let key = c.args.key in
    let old = c.find_counted-found.result.until in
    let index = c.find_counted-found.ensures.index ∙ ap (λ (s : ChangeState). index_beside key.owner key.side key.addr (named_sort_key key) s.rows) c.self.view_is in
    let until = c.find_counted-found.ensures.until ∙ ap (λ (s : ChangeState). until_of_row (named_sort_key key) s.rows) c.self.view_is in
    on_ok_weaker c.plan_found.result (λ made new is.
    ap (fresh_of c.plan_found.new.edits.rows) (c.in_ok-keep_row.ensures ∙ ap (row_with key (expiry_kept old c.args.until)) rows)
    ∙ fresh_is c.args.self.now.slots c.args.self.now.bindings new c.args.self.now.rows kept key old c.args.until c.plan_found.new.edits.rows c.args.fresh.now until is
    (made ∙ (λ i. changed_edits key (index i) old c.args.until (edits i)))) c.plan_found.ensures
