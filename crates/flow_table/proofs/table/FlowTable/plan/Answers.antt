use Rattle.std.proofs.Common.{◌≡◌, IsTrue, List, sym, ◌∙◌, subst}
use Rattle.table_model.specs.declared.segment.Segment.{Segment}
use Rattle.flow_table.specs.Noted.{segment_planned, follows}
use Rattle.flow_table.proofs.Histories.{at_planned}
use Rattle.flow_table.proofs.table.FlowTable.plan.Goals as goal

pub returns-clause-planned : goal.returns-clause-planned
unfolding segment_planned
returns-clause-planned c = sym c.segment_of.ensures ∙ c.in-Some.is

pub returns-clause-ready : goal.returns-clause-ready
unfolding segment_planned
returns-clause-ready c =
    let at : c.in-Some.packet.at ≡ c.args.now = at_planned _ _ _ (sym c.segment_of.ensures ∙ c.in-Some.is) in
    record {
      since = rw at (subst (λ (h : List Segment). IsTrue (follows h c.args.now)) (sym c.in_ok-make_room.ensures.same) c.requires.since);
      room = c.in_ok-make_room.ensures.room;
    }
