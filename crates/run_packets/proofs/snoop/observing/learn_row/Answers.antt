use Rattle.mud_world.specs.Kept.{faults_of}
use Rattle.mud_desk.specs.DeskState.{session_of}
use Rattle.run_packets.proofs.SnoopLaws.LearntRows.{first_one, learns_one}
use Rattle.run_packets.proofs.snoop.observing.learn_row.Goals as goal
use Rattle.base_rows.proofs.Results.{always_on_err}

pub returns-in_err-append_name-clause-part : goal.returns-in_err-append_name-clause-part
returns-in_err-append_name-clause-part g c =
    always_on_err c.from_residual-in_err-append_name.result
    (first_one c.args.now c.args.name.now c.args.row c.in_ok-reply.reply (session_of c.args.desk.now.state) (session_of c.observe.new.desk.state)
    (faults_of g.K.Keeper c.args.desk.now.keeper) (faults_of g.K.Keeper c.observe.new.desk.keeper)
    c.in_ok-reply.ensures.answer c.in_ok-reply.ensures.told c.in_ok-reply.ensures.cause)

pub returns-clause-all : goal.returns-clause-all
returns-clause-all g c =
    learns_one c.args.now c.args.name.now c.args.row c.in_ok-reply.reply (session_of c.args.desk.now.state) (session_of c.observe.new.desk.state)
    (faults_of g.K.Keeper c.args.desk.now.keeper) (faults_of g.K.Keeper c.observe.new.desk.keeper)
    c.in_ok-reply.ensures.answer c.in_ok-reply.ensures.told c.in_ok-reply.ensures.cause
    c.args.lines.now c.append_name.new.lines c.is_of_keeper.result c.in_ok-append_name.ensures c.is_of_keeper.ensures
