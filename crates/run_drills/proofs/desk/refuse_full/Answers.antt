use Rattle.run_drills.specs.Store.{not_empty_line}
use Rattle.run_drills.proofs.Lines.{wrote_first}
use Rattle.run_drills.proofs.desk.refuse_full.Goals as goal

pub returns-in-Ok-clause-done : goal.returns-in-Ok-clause-done
returns-in-Ok-clause-done g c = λ told three. c.in-Ok.ensures.ok told

pub returns-in-Err-clause-part : goal.returns-in-Err-clause-part
returns-in-Err-clause-part g c = λ told four. wrote_first not_empty_line (g.D.Door.view c.args.door.now).state (g.D.Door.view c.say.new.door).state (c.in-Err.ensures.part told)
