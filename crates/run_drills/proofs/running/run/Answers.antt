use Rattle.std.proofs.Common.{ℕ, subst}
use Rattle.desk_model.specs.Sessions.{AllowedReply}
use Rattle.mud_desk.specs.DeskState.{session_of}
use Rattle.run_drills.proofs.RanLaws.{all_of_one, part_of_one}
use Rattle.run_drills.proofs.running.run.Goals as goal

pub returns-clause-all : goal.returns-clause-all
returns-clause-all g c =
    let reply = c.execute.ensures in
    let answer = subst (λ (n : ℕ). AllowedReply (session_of c.args.desk.now.state) n c.args.command c.execute.result (session_of c.execute.new.self.state)) c.command_moment.ensures reply.answer in
    all_of_one g.K.Keeper c.args.desk.now c.execute.new.self
    reply.stays c.args.command c.execute.result c.unless_stopped.result c.unless_stopped.ensures answer reply.cause

pub returns-clause-part : goal.returns-clause-part
returns-clause-part g c =
    let reply = c.execute.ensures in
    let answer = subst (λ (n : ℕ). AllowedReply (session_of c.args.desk.now.state) n c.args.command c.execute.result (session_of c.execute.new.self.state)) c.command_moment.ensures reply.answer in
    part_of_one g.K.Keeper c.args.desk.now c.execute.new.self
    reply.stays c.args.command c.execute.result c.unless_stopped.result c.unless_stopped.ensures answer reply.cause
