use Rattle.std.proofs.Common.{rules, ◌≡◌, ◌∙◌, List, ℕ, [], subst, sym}
use Rattle.mud_world.specs.Kept.{faults_of}
use Rattle.mud_desk.specs.DeskState.{session_of}
use Rattle.run_captures.specs.Runs.{HasDone}
use Rattle.run_captures.proofs.Done.{has_done_none}
use Rattle.run_packets.proofs.SnoopLaws.Snooped.{part_at_first, taken_at_first}
use Rattle.run_packets.proofs.snoop.capture.snoop_capture.Goals as goal

pub returns-in-Err-Failed-clause-part : goal.returns-in-Err-Failed-clause-part
returns-in-Err-Failed-clause-part g c = λ tells which.
    part_at_first (session_of c.args.desk.now.state) (g.D.Door.view c.args.door.now).state (faults_of g.K.Keeper c.args.desk.now.keeper) (g.D.Door.view c.begin.new.door).state (c.in-Err-Failed.ensures.part tells)

pub returns-in-Err-Failed-clause-taken : goal.returns-in-Err-Failed-clause-taken
returns-in-Err-Failed-clause-taken g c = λ tells changed.
    taken_at_first (session_of c.args.desk.now.state) (g.D.Door.view c.args.door.now).state (faults_of g.K.Keeper c.args.desk.now.keeper) (g.D.Door.view c.begin.new.door).state (c.in-Err-Failed.ensures.part tells)

pub returns-in-Err-Memory-clause-part : goal.returns-in-Err-Memory-clause-part
returns-in-Err-Memory-clause-part g c = λ tells which.
    part_at_first (session_of c.args.desk.now.state) (g.D.Door.view c.args.door.now).state (faults_of g.K.Keeper c.args.desk.now.keeper) (g.D.Door.view c.begin.new.door).state (c.in-Err-Memory.ensures.part tells)

pub returns-clause-done : goal.returns-clause-done
returns-clause-done g c = λ tells which.
    let first = (g.D.Door.view c.args.door.now).state in
    c.snoop_packets.ensures.done first tells (subst (λ (lines : List ℕ). HasDone [] [] c.in-Ok.reader first (g.D.Door.view c.begin.new.door).state lines) (sym c.empty-lines.ensures)
    (has_done_none c.in-Ok.reader first (g.D.Door.view c.begin.new.door).state (c.in-Ok.ensures.begun tells))) which

pub returns-clause-part : goal.returns-clause-part
returns-clause-part g c = λ tells which.
    let first = (g.D.Door.view c.args.door.now).state in
    c.snoop_packets.ensures.part first tells (subst (λ (lines : List ℕ). HasDone [] [] c.in-Ok.reader first (g.D.Door.view c.begin.new.door).state lines) (sym c.empty-lines.ensures)
    (has_done_none c.in-Ok.reader first (g.D.Door.view c.begin.new.door).state (c.in-Ok.ensures.begun tells))) which

pub returns-clause-taken : goal.returns-clause-taken
returns-clause-taken g c = λ tells changed.
    let first = (g.D.Door.view c.args.door.now).state in
    let steady : (g.D.Door.view c.begin.new.door).reads ≡ (g.D.Door.view c.args.door.now).reads = search rules in
    c.snoop_packets.ensures.taken first tells (subst (λ (lines : List ℕ). HasDone [] [] c.in-Ok.reader first (g.D.Door.view c.begin.new.door).state lines) (sym c.empty-lines.ensures)
    (has_done_none c.in-Ok.reader first (g.D.Door.view c.begin.new.door).state (c.in-Ok.ensures.begun tells))) (λ same. changed (same ∙ steady))
