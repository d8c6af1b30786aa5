use Rattle.std.proofs.Common.{◌≡◌, ℕ, List, sym, ap, subst, ◌∙◌}
use Rattle.drop_ledger.specs.Ledger.{TallyState}
use Rattle.mud_desk.specs.DeskState.{DeskState, session_of}
use Rattle.mud_world.specs.Door.{DoorState}
use Rattle.run_captures.specs.Captures.{captured_of}
use Rattle.run_captures.specs.Capture.{output_behind}
use Rattle.run_common.specs.Output.{Output, WritesOutput, WritesPart}
use Rattle.run_common.specs.Status.{status_number}
use Rattle.desk_model.specs.Sessions.{Session}
use Rattle.run_packets.specs.Tally.Tallied.{IsTallied, begun, seen_in, tally_text}
use Rattle.run_packets.specs.Tally.Store.{output_of_tally}
use Rattle.run_packets.proofs.TallyLaws.TextLaws.{lines_told}
use Rattle.run_packets.proofs.tally.store.tally_capture.Goals as goal

-- what is held at the beginning, in the session of the desk whose parts were taken
begun_over : (desk state held : DeskState) (moment now : ℕ) (tally : TallyState) → state ≡ desk → moment ≡ desk.moment
    → (moment ≡ state.moment → IsTallied (begun (session_of state)) held now tally) → IsTallied (begun (session_of desk)) held now tally
begun_over desk state held moment now tally same is new =
    subst (λ (s : DeskState). IsTallied (begun (session_of s)) held now tally) same (new (is ∙ ap (λ (s : DeskState). s.moment) (sym same)))

told_output : (s : Session) (octets text : List ℕ) → text ≡ tally_text (seen_in s (captured_of octets).all) → output_behind text (captured_of octets).fault ≡ output_of_tally s octets
told_output s octets text same = ap (λ (l : List ℕ). output_behind l (captured_of octets).fault) same

pub returns-clause-done : goal.returns-clause-done
returns-clause-done g c = λ tells which.
    let s = session_of c.args.desk.state in
    let old : DoorState = (g.D.Door.view c.args.door.now).state in
    let new : DoorState = (g.D.Door.view c.write_capture-status.new.door).state in
    let lines = c.new-lines.result in
    let keeps = begun_over c.args.desk.state c.into_parts-keeper.result.1 lines.state c.moment-moment.result lines.moment lines.tally c.into_parts-keeper.ensures.state c.moment-moment.ensures c.new-lines.ensures in
    subst (λ (output : Output). WritesOutput output old new (status_number c.write_capture-status.result))
    (told_output s old.left _ (lines_told s (captured_of old.left).all))
    (c.write_capture-status.ensures.done (begun s) keeps tells which)

pub returns-clause-part : goal.returns-clause-part
returns-clause-part g c = λ tells which.
    let s = session_of c.args.desk.state in
    let old : DoorState = (g.D.Door.view c.args.door.now).state in
    let new : DoorState = (g.D.Door.view c.write_capture-status.new.door).state in
    let lines = c.new-lines.result in
    let keeps = begun_over c.args.desk.state c.into_parts-keeper.result.1 lines.state c.moment-moment.result lines.moment lines.tally c.into_parts-keeper.ensures.state c.moment-moment.ensures c.new-lines.ensures in
    subst (λ (output : Output). WritesPart output old new)
    (told_output s old.left _ (lines_told s (captured_of old.left).all))
    (c.write_capture-status.ensures.part (begun s) keeps tells which)

pub returns-clause-taken : goal.returns-clause-taken
returns-clause-taken g c =
    let lines = c.new-lines.result in
    c.write_capture-status.ensures.taken (begun (session_of c.args.desk.state))
    (begun_over c.args.desk.state c.into_parts-keeper.result.1 lines.state c.moment-moment.result lines.moment lines.tally c.into_parts-keeper.ensures.state c.moment-moment.ensures c.new-lines.ensures)
