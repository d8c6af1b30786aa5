use Rattle.std.proofs.Common.{IsTrue, sym, ap, subst, ◌∙◌}
use Rattle.table_model.specs.History.{side_of}
use Rattle.flow_table.specs.Noted.{Noted, follows}
use Rattle.flow_table.specs.Kept.{beginner_kept}
use Rattle.flow_table.specs.Keys.{Key}
use Rattle.flow_table.specs.Held.{held_of, held_at, held_between, flows_of}
use Rattle.flow_table.proofs.Histories.{begun_none, begun_opens, begun_other}
use Rattle.flow_table.proofs.table.FlowTable.begun.Goals as goal

pub returns-in_default : goal.returns-in_default
returns-in_default c = begun_none _ _ _ _ (sym c.segment_of.ensures ∙ c.in_default.is)

pub returns-then-opens : goal.returns-then-opens
returns-then-opens c = c.side_of.ensures ∙ begun_opens _ _ _ _ c.in-Some.packet (sym c.segment_of.ensures ∙ c.in-Some.is) (sym c.opens.ensures ∙ c.if-opens.true)

pub returns : goal.returns
unfolding flows_of held_between held_at
returns c =
    let held = held_of c.self.inside.last c.self.inside.since c.self.inside.newest c.self.inside.younger c.self.inside.elder in
    let packet = c.in-Some.packet in
    let since = subst (λ (noted : Noted). IsTrue (follows noted.history c.args.now)) (sym c.self.view_is) c.requires in
    rw (← c.self.view_is)
    (c.side_of-2.ensures
    ∙ ap (side_of c.args.side packet) (c.beginner_kept.ensures ∙ ap (λ kept. beginner_kept kept packet.at) (c.held-kept.ensures ∙ ap (λ (key : Key). held_at held key) c.key_of-key.ensures))
    ∙ begun_other c.self.inside.history.items (flows_of held) c.args.side c.args.fields.now c.args.now packet c.self.invariant.stands since (sym c.segment_of.ensures ∙ c.in-Some.is) (sym c.opens.ensures ∙ c.if-opens.false))
