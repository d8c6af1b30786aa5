use Rattle.std.proofs.Common.{List, ◌*◌, length, ap, subst, ◌∙◌, arith}
use Rattle.base_rows.specs.Sortable.{SortKeysAscend}
use Rattle.acl_model.specs.SortKeys.{binding_sort_key}
use Rattle.acl_rows.specs.declared.row.RowKey.{RowKey}
use Rattle.acl_changes.specs.Touched.{touches}
use Rattle.acl_changes.specs.Change.{ChangeState, more_edits}
use Rattle.acl_changes.specs.Steps.{least_steps}
use Rattle.acl_changes.proofs.Loops.{length_times, least_steps-append}
use Rattle.acl_changes.proofs.Planned.{touches-append, planned}
use Rattle.acl_changes.proofs.change.Change.plan.Goals as goal

pub returns-in_err-all_edits-clause-most : goal.returns-in_err-all_edits-clause-most
returns-in_err-all_edits-clause-most g c = λ b k u few rows fit.
    let count = ap (λ (ts : List RowKey). length ts * u) (touches-append c.args.self.now.slots c.args.self.now.gone c.args.self.now.come) ∙ length_times (touches c.args.self.now.slots c.args.self.now.gone) (touches c.args.self.now.slots c.args.self.now.come) u in
    let left = ap (λ (s : ChangeState). length (touches c.args.self.now.slots s.gone) * u) c.self.view_is in
    omega (arith, c.all_edits.ensures.most b k u few rows fit, count, left)

pub returns-in_err-all_edits-2-clause-most : goal.returns-in_err-all_edits-2-clause-most
returns-in_err-all_edits-2-clause-most g c = λ b k u few rows fit.
    let count = ap (λ (ts : List RowKey). length ts * u) (touches-append c.args.self.now.slots c.args.self.now.gone c.args.self.now.come) ∙ length_times (touches c.args.self.now.slots c.args.self.now.gone) (touches c.args.self.now.slots c.args.self.now.come) u in
    let left = ap (λ (s : ChangeState). length (touches c.args.self.now.slots s.gone) * u) c.self.view_is in
    let came = ap (λ (s : ChangeState). length (touches c.args.self.now.slots s.come) * u) c.self.view_is in
    omega (arith, c.all_edits.ensures.most b k u few rows fit, c.all_edits-2.ensures.most b k u few rows fit, count, left, came)

pub returns-clause-ok : goal.returns-clause-ok
returns-clause-ok g c =
    planned c.args.self.now c.all_edits-2.new.edits.rows (subst (λ (s : ChangeState). SortKeysAscend binding_sort_key s.bindings) c.self.view_is c.tell_order.ensures)
    (c.in_ok-all_edits-2.ensures.ok
    ∙ (λ i. more_edits c.args.self.now (touches c.args.self.now.slots (c.self.view_is i).come) (c.in_ok-all_edits.ensures.ok i))
    ∙ (λ i. more_edits c.args.self.now (touches c.args.self.now.slots c.args.self.now.come) (more_edits c.args.self.now (touches c.args.self.now.slots (c.self.view_is i).gone) (c.new-edits.ensures.rows i))))

pub returns-clause-most : goal.returns-clause-most
returns-clause-most g c = λ b k u few rows fit.
    let count = ap (λ (ts : List RowKey). length ts * u) (touches-append c.args.self.now.slots c.args.self.now.gone c.args.self.now.come) ∙ length_times (touches c.args.self.now.slots c.args.self.now.gone) (touches c.args.self.now.slots c.args.self.now.come) u in
    let left = ap (λ (s : ChangeState). length (touches c.args.self.now.slots s.gone) * u) c.self.view_is in
    let came = ap (λ (s : ChangeState). length (touches c.args.self.now.slots s.come) * u) c.self.view_is in
    omega (arith, c.all_edits.ensures.most b k u few rows fit, c.all_edits-2.ensures.most b k u few rows fit, count, left, came)

pub returns-clause-read : goal.returns-clause-read
returns-clause-read g c =
    let count = ap (least_steps c.args.self.now.rows) (touches-append c.args.self.now.slots c.args.self.now.gone c.args.self.now.come) ∙ least_steps-append c.args.self.now.rows (touches c.args.self.now.slots c.args.self.now.gone) (touches c.args.self.now.slots c.args.self.now.come) in
    let left = ap (λ (s : ChangeState). least_steps c.args.self.now.rows (touches c.args.self.now.slots s.gone)) c.self.view_is in
    let came = ap (λ (s : ChangeState). least_steps c.args.self.now.rows (touches c.args.self.now.slots s.come)) c.self.view_is in
    omega (arith, c.in_ok-all_edits.ensures.read, c.in_ok-all_edits-2.ensures.read, count, left, came)
