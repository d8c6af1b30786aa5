use Rattle.std.proofs.Common.{List, ◌∷◌, [], OnOk, ◌≡◌, sym, ap, subst, ◌∙◌, arith}
use Rattle.acl_rows.specs.declared.row.Owner.{Owner}
use Rattle.acl_rows.specs.declared.row.Row.{Row}
use Rattle.acl_rows.specs.Rows.{entry_expiry, held_by, rows_of}
use Rattle.acl_changes.specs.Touched.{row_key}
use Rattle.base_rows.specs.declared.edit.Edit.{Edit}
use Rattle.acl_changes.specs.Change.{ChangeState, after, more_edits}
use Rattle.std.proofs.lemmas.Option.{same_Some}
use Rattle.acl_changes.specs.Steps.{least_step, entry_look}
use Rattle.acl_changes.proofs.OneEdit.{entry_edit_is}
use Rattle.acl_changes.proofs.SpotTouches.{spot_most}
use Rattle.acl_changes.proofs.change.Change.spot_edit.Goals as goal

pub returns-clause-ok : goal.returns-clause-ok
returns-clause-ok g c =
    let kept = subst (λ (s : ChangeState). s.rows ≡ rows_of s.slots s.bindings) c.self.view_is c.self.invariant.kept in
    let holds = ap (held_by c.args.self.now.slots) c.owner.ensures ∙ c.requires.held in
    let made = entry_edit_is c.args.self.now kept c.owner.result c.args.spot.now.side c.args.addr c.args.spot.now.number c.args.holding.now.1 c.entry-entry.result.now c.entry_expiry-until.result c.args.edits.now.rows holds c.entry-entry.ensures
    (c.entry_expiry-until.ensures.value ∙ (λ i. entry_expiry (after c.args.self.now) (c.url.ensures i) c.entry-entry.result.now c.args.addr)) in
    let own = ap (λ (o : Owner). more_edits c.args.self.now (row_key o c.args.spot.now.side c.args.addr c.args.spot.now.number ∷ []) c.args.edits.now.rows) c.owner.ensures in
    subst (λ (rows : List (Edit Row)). OnOk c.plan_row.result (c.plan_row.new.edits.rows ≡ rows)) (made ∙ own) c.plan_row.ensures.ok

pub returns-clause-most : goal.returns-clause-most
returns-clause-most g c = λ b k u few rows fit.
    spot_most c.args.steps.now c.entry_expiry-until.new.steps c.plan_row.new.steps b k u c.url.result.now c.args.holding.now.1.url c.entry-entry.result.now c.url.ensures
    (c.entry_expiry-until.ensures.most b few) (c.plan_row.ensures.most k rows) (fit c.args.spot.now.side c.args.spot.now.number c.entry-entry.result.now c.entry-entry.ensures)

pub returns-clause-least : goal.returns-clause-least
returns-clause-least g c =
    let own = ap (λ (o : Owner). least_step c.args.self.now.rows (row_key o c.args.spot.now.side c.args.addr c.args.spot.now.number)) c.owner.ensures in
    omega (arith, c.entry_expiry-until.ensures.least, c.plan_row.ensures.least, own)

pub returns-clause-looked : goal.returns-clause-looked
returns-clause-looked g c = λ entry stands.
    let same = same_Some c.entry-entry.result.now entry (sym c.entry-entry.ensures ∙ stands) in
    let look : entry_look c.args.self.now c.url.result.now c.entry-entry.result.now c.args.addr ≡ entry_look c.args.self.now c.args.holding.now.1.url entry c.args.addr = λ i. entry_look c.args.self.now (c.url.ensures i) (same i) c.args.addr in
    let own = ap (λ (o : Owner). least_step c.args.self.now.rows (row_key o c.args.spot.now.side c.args.addr c.args.spot.now.number)) c.owner.ensures in
    omega (arith, c.entry_expiry-until.ensures.looked, c.plan_row.ensures.least, own, look)
