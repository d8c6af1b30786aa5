use Rattle.std.proofs.Common.{List, [], ◌∷◌, ◌++◌, sym, ap, ◌∙◌}
use Rattle.table_model.specs.declared.segment.Segment.{Segment}
use Rattle.flow_table.specs.Noted.{segment_planned}
use Rattle.mud_desk.proofs.Notes.{history_kept, history_more}
use Rattle.mud_desk.proofs.Since.{since_later, since_same, since_noted}
use Rattle.table_model.specs.History.{last_packet_at}
use Rattle.mud_desk.proofs.noting.note.Goals as goal

pub returns-in_err-plan-in-Some-clause-since : goal.returns-in_err-plan-in-Some-clause-since
returns-in_err-plan-in-Some-clause-since c = since_same c.args.now c.args.flows.now.history c.plan.new.self.history c.in_err-plan-in-Some.ensures.same c.requires.since

pub returns-in_ok-plan-in-Some-clause-ok : goal.returns-in_ok-plan-in-Some-clause-ok
returns-in_ok-plan-in-Some-clause-ok c =
    let p = segment_planned c.in_ok-plan-in-Some.plan in
    c.note.ensures
    ∙ ap (λ (xs : List Segment). xs ++ p ∷ []) c.in_ok-plan-in-Some.ensures.same
    ∙ sym (history_more c.args.flows.now.history c.args.frame.now c.args.verdict.now c.args.now c.in-Some.fields p c.in-Some.ensures.value c.in_ok-plan-in-Some.ensures.planned)

pub returns-in_ok-plan-in-Some-clause-since : goal.returns-in_ok-plan-in-Some-clause-since
returns-in_ok-plan-in-Some-clause-since c =
    since_noted c.in-Some.fields c.args.now (segment_planned c.in_ok-plan-in-Some.plan) c.plan.new.self.history c.note.new.self.history c.in_ok-plan-in-Some.ensures.planned c.note.ensures

pub returns-in-None-clause-ok : goal.returns-in-None-clause-ok
returns-in-None-clause-ok c = sym (history_kept c.args.flows.now.history c.args.frame.now c.args.verdict.now c.args.now c.in-None.ensures.value)

pub returns-in-None-clause-since : goal.returns-in-None-clause-since
returns-in-None-clause-since c = λ n le. since_later (last_packet_at c.args.flows.now.history) c.args.now n c.requires.since le
