use Rattle.std.proofs.Common.{◌≡◌, refl}
use Rattle.mud_world.specs.Kept.{faults_of}
use Rattle.mud_desk.specs.DeskState.{session_of}
use Rattle.mud_desk.specs.Stays.{StaysKept}
use Rattle.console.specs.Answers.{fault_answer}
use Rattle.console.specs.States.{ConsoleStep, begun}
use Rattle.console.proofs.Takes.{at_first}
use Rattle.console.proofs.Beside.{beside, left_of, is_served_of}
use Rattle.console.proofs.serve.serve_connection.Goals as goal

pub returns-clause-left : goal.returns-clause-left
returns-clause-left g c =
    let old = c.args.console.now in
    let moments = g.C.Clock.moments old.clock.now in
    let first = begun (session_of old.desk.state) moments in
    left_of (ConsoleStep g.C.Clock.tells) _ _ first old (λ n k. k.0)
    (c.serve_connection.ensures.left (first, old) (at_first g.C.Clock.tells old.desk.state moments (faults_of g.K.Keeper old.desk.keeper), (λ t. t), refl))

pub returns-clause-served : goal.returns-clause-served
returns-clause-served g c = λ tells.
    let old = c.args.console.now in
    let moments = g.C.Clock.moments old.clock.now in
    let first = begun (session_of old.desk.state) moments in
    is_served_of (ConsoleStep g.C.Clock.tells) fault_answer c.args.from _ _ first old _ _ _ (λ n k. k.0)
    (c.serve_connection.ensures.served tells (first, old) (at_first g.C.Clock.tells old.desk.state moments (faults_of g.K.Keeper old.desk.keeper), (λ t. t), refl))

pub returns-clause-stays : goal.returns-clause-stays
returns-clause-stays g c =
    let old = c.args.console.now in
    let moments = g.C.Clock.moments old.clock.now in
    let first = begun (session_of old.desk.state) moments in
    let new = c.serve_connection.new.service in
    let ready = c.serve_connection.ensures.ready in
    beside (ConsoleStep g.C.Clock.tells) _ first old (c.serve_connection.ensures.left (first, old) (at_first g.C.Clock.tells old.desk.state moments (faults_of g.K.Keeper old.desk.keeper), (λ t. t), refl))
    (λ x. StaysKept g.K.Keeper x.desk new.desk)
    (λ n k. record { kept = ready; told = k.1 })

pub returns-clause-same_clock : goal.returns-clause-same_clock
returns-clause-same_clock g c =
    let old = c.args.console.now in
    let moments = g.C.Clock.moments old.clock.now in
    let first = begun (session_of old.desk.state) moments in
    let new = c.serve_connection.new.service in
    beside (ConsoleStep g.C.Clock.tells) _ first old (c.serve_connection.ensures.left (first, old) (at_first g.C.Clock.tells old.desk.state moments (faults_of g.K.Keeper old.desk.keeper), (λ t. t), refl))
    (λ x. new.clock.ghost_name ≡ x.clock.ghost_name) (λ n k. k.2)
