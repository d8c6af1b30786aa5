use Rattle.std.proofs.Common.{refl, ◌∙◌}
use Rattle.mud_world.specs.Kept.{faults_of}
use Rattle.console.proofs.Takes.{carried}
use Rattle.console.proofs.console.ConsoleService.carry_out.Goals as goal

pub returns-clause-answer : goal.returns-clause-answer
returns-clause-answer g c = λ from whole are s kept.
    let stays = c.answer_request.ensures.stays in
    let k = carried g.C.Clock.tells c.args.self.now.desk.state c.answer_request.new.desk.state (g.C.Clock.moments c.args.self.now.clock.now) (g.C.Clock.moments c.moment_for-given.new.clock)
    (faults_of g.K.Keeper s.1.desk.keeper) (faults_of g.K.Keeper c.args.self.now.desk.keeper) (faults_of g.K.Keeper c.answer_request.new.desk.keeper)
    c.answer_request.result c.moment_for-given.result c.answer_request.new.answer from whole c.args.is_last c.args.request.now.moment c.moment_for-given.ensures are.moment
    c.answer_request.ensures.cause (c.answer_request.ensures.answer from whole are) s.0 kept.0
    in
    record {
      next = (k.next, s.1);
      is_allowed = record { may_be = k.may; same = refl };
      kept = (k.at, (λ t. kept.1 (stays.told t)), kept.2);
    }
