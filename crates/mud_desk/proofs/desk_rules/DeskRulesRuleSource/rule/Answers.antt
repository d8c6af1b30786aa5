use Rattle.std.proofs.Common.{Option, ap, ◌∙◌, arith}
use Rattle.mud_base.specs.declared.packet.Direction.{Direction}
use Rattle.mud_base.specs.declared.packet.Fields.{Fields}
use Rattle.table_model.specs.Bindings.{ruling_by_bindings}
use Rattle.acl_compile.specs.Plans.{policy_held}
use Rattle.table_model.specs.History.{begun_of}
use Rattle.packet_judge.specs.ByRows.{asked}
use Rattle.packet_judge.proofs.ViewSteps as count
use Rattle.mud_desk.specs.RuleInputs.{ruling_on, rows_read, ruling_steps}
use Rattle.mud_desk.proofs.Views.{view_over}
use Rattle.mud_desk.proofs.desk_rules.DeskRulesRuleSource.rule.Goals as goal

pub returns-clause-value : goal.returns-clause-value
unfolding ruling_on
returns-clause-value g c =
    let o = c.args.self.now in
    let k = o.compiled.now in
    let url = c.args.thing.now.url in
    c.rule.ensures.rules k.slots k.bindings url (policy_held k.slots url) c.args.side (view_over k url c.args.side c.view-view.result c.view-view.ensures.view c.view-view.ensures.kept)
    ∙ ap (λ (begun : Option Direction). ruling_by_bindings k.bindings o.locals.now o.now url (policy_held k.slots url) c.args.side c.args.packet.now.fields begun)
    (c.begun-begun.ensures ∙ ap (λ (f : Fields). begun_of o.flows.now.history c.args.side f o.now) c.fields.ensures)

pub returns-clause-least : goal.returns-clause-least
unfolding rows_read
returns-clause-least g c =
    let o = c.args.self.now in
    let k = o.compiled.now in
    let same = count.least k.slots k.rows c.args.thing.now.url c.args.side c.view-view.result (asked o.locals.now o.now c.args.packet.now.fields c.begun-begun.result) c.view-view.ensures.view in
    let taken = c.rule.ensures.least in
    omega (arith, same, taken)

pub returns-clause-most : goal.returns-clause-most
unfolding ruling_steps
returns-clause-most g c = λ b few.
    let o = c.args.self.now in
    let k = o.compiled.now in
    let same = count.most k.slots k.rows c.args.thing.now.url c.args.side c.view-view.result (asked o.locals.now o.now c.args.packet.now.fields c.begun-begun.result) b c.view-view.ensures.view in
    let taken = c.rule.ensures.most b (count.fits k.slots k.rows c.args.thing.now.url c.args.side c.view-view.result b c.view-view.ensures.view few) in
    omega (arith, same, taken)
