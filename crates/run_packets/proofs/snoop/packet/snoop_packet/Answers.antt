use Rattle.std.proofs.Common.{◌∙◌, ap, refl, sym, append-nil, List, ℕ, None, Some, Bool, false, subst}
use Rattle.std.specs.Prelude.{option_map}
use Rattle.std.proofs.lemmas.Result.{IfOk-weaker, on_err_weaker}
use Rattle.table_model.specs.declared.bind.ClassRow.{ClassRow}
use Rattle.mud_world.specs.Kept.{faults_of}
use Rattle.frame_view.specs.declared.views.Frame.{Frame}
use Rattle.frame_view.specs.Frame.{frame_of}
use Rattle.pcap_read.specs.Captured.{packet_of}
use Rattle.mud_desk.specs.DeskState.{session_of, tables_of}
use Rattle.mud_desk.proofs.Stays.{stays_further}
use Rattle.dns_snoop.specs.Messages.{answers_of}
use Rattle.run_packets.specs.Snoop.Learning.{heard_in}
use Rattle.run_packets.specs.Snoop.Learnt.{Learns, LearnsFirst}
use Rattle.run_packets.proofs.SnoopLaws.LearntRows.{first_none, learns_none}
use Rattle.run_packets.proofs.SnoopLaws.Judging.{goes_on, stops_at}
use Rattle.run_packets.proofs.snoop.packet.snoop_packet.Goals as goal
use Rattle.base_rows.proofs.Results.{always_on_err}

pub returns-in_err-append_judged-clause-part : goal.returns-in_err-append_judged-clause-part
returns-in_err-append_judged-clause-part g c =
    let packet = packet_of c.args.packet.now in
    let middle = c.judge_packet.new.desk.state in
    let heard = option_map answers_of (heard_in (tables_of middle).tables.classes (frame_of packet.octets) c.in_ok-judged.judged.verdict) in
    always_on_err c.from_residual-in_err-append_judged.result
    (stops_at (session_of c.args.desk.now.state) packet c.in_ok-judged.judged.verdict middle (session_of middle) c.in_ok-judged.ensures.verdict c.in_ok-judged.ensures.next heard refl
    middle.moment (faults_of g.K.Keeper c.args.desk.now.keeper) (faults_of g.K.Keeper c.judge_packet.new.desk.keeper) refl
    (first_none middle.moment heard (session_of middle) (session_of middle) (faults_of g.K.Keeper c.args.desk.now.keeper) (faults_of g.K.Keeper c.judge_packet.new.desk.keeper)
    refl (ap (faults_of g.K.Keeper) c.in_ok-judged.ensures.keeper)))

pub returns-in_default-clause-all : goal.returns-in_default-clause-all
returns-in_default-clause-all g c =
    let packet = packet_of c.args.packet.now in
    let middle = c.judge_packet.new.desk.state in
    let verdict = c.in_ok-judged.judged.verdict in
    let lines : List ℕ = c.append_judged.new.lines in
    let f = faults_of g.K.Keeper c.args.desk.now.keeper in
    let k = faults_of g.K.Keeper c.judge_packet.new.desk.keeper in
    goes_on (session_of c.args.desk.now.state) packet verdict middle (session_of middle) c.in_ok-judged.ensures.verdict c.in_ok-judged.ensures.next None
    (ap (option_map answers_of) (c.in_default.ensures ∙ ap (λ (classes : List ClassRow). heard_in classes c.in_ok-judged.judged.frame verdict) c.classes.ensures
    ∙ ap (λ (f : Frame). heard_in (tables_of middle).tables.classes f verdict) c.in_ok-judged.ensures.frame))
    middle.moment c.args.lines.now lines lines f k false refl c.in_ok-append_judged.ensures
    (learns_none middle.moment None (session_of middle) lines lines f k (ap (faults_of g.K.Keeper) c.in_ok-judged.ensures.keeper) refl (sym (append-nil lines)))

pub returns-clause-stays : goal.returns-clause-stays
returns-clause-stays g c = stays_further g.K.Keeper c.in_ok-judged.ensures.stays c.learn.ensures.stays

pub returns-clause-all : goal.returns-clause-all
returns-clause-all g c =
    let packet = packet_of c.args.packet.now in
    let middle = c.judge_packet.new.desk.state in
    let after = session_of c.learn.new.desk.state in
    let verdict = c.in_ok-judged.judged.verdict in
    let heard = Some (answers_of c.in-Some.message.now) in
    let f = faults_of g.K.Keeper c.args.desk.now.keeper in
    let k = faults_of g.K.Keeper c.learn.new.desk.keeper in
    IfOk-weaker c.learn.result _ _
    (λ (failed : Bool) learns.
    goes_on (session_of c.args.desk.now.state) packet verdict middle after c.in_ok-judged.ensures.verdict c.in_ok-judged.ensures.next heard
    (ap (option_map answers_of) (c.in-Some.ensures ∙ ap (λ (classes : List ClassRow). heard_in classes c.in_ok-judged.judged.frame verdict) c.classes.ensures
    ∙ ap (λ (f : Frame). heard_in (tables_of middle).tables.classes f verdict) c.in_ok-judged.ensures.frame))
    c.moment-now.result c.args.lines.now c.append_judged.new.lines c.learn.new.lines f k failed c.moment-now.ensures c.in_ok-append_judged.ensures
    (subst (λ (n : ℕ). Learns c.moment-now.result heard (session_of middle) after c.append_judged.new.lines c.learn.new.lines n k failed)
    (ap (faults_of g.K.Keeper) c.in_ok-judged.ensures.keeper) learns))
    c.learn.ensures.all

pub returns-clause-part : goal.returns-clause-part
returns-clause-part g c =
    let packet = packet_of c.args.packet.now in
    let middle = c.judge_packet.new.desk.state in
    let after = session_of c.learn.new.desk.state in
    let verdict = c.in_ok-judged.judged.verdict in
    let heard = Some (answers_of c.in-Some.message.now) in
    let f = faults_of g.K.Keeper c.args.desk.now.keeper in
    let k = faults_of g.K.Keeper c.learn.new.desk.keeper in
    on_err_weaker c.learn.result
    (λ learns.
    stops_at (session_of c.args.desk.now.state) packet verdict middle after c.in_ok-judged.ensures.verdict c.in_ok-judged.ensures.next heard
    (ap (option_map answers_of) (c.in-Some.ensures ∙ ap (λ (classes : List ClassRow). heard_in classes c.in_ok-judged.judged.frame verdict) c.classes.ensures
    ∙ ap (λ (f : Frame). heard_in (tables_of middle).tables.classes f verdict) c.in_ok-judged.ensures.frame))
    c.moment-now.result f k c.moment-now.ensures
    (subst (λ (n : ℕ). LearnsFirst c.moment-now.result heard (session_of middle) after n k)
    (ap (faults_of g.K.Keeper) c.in_ok-judged.ensures.keeper) learns))
    c.learn.ensures.part
