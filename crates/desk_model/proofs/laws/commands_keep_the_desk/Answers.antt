use Rattle.desk_model.proofs.SoundSteps.{commands_sound}
use Rattle.desk_model.proofs.ToldSteps.{commands_told, lists-stamped}
use Rattle.desk_model.proofs.Spoken.{says-command_step}
use Rattle.desk_model.proofs.laws.commands_keep_the_desk.Goals as goal

pub returns-clause-sound : goal.returns-clause-sound
returns-clause-sound c = commands_sound

pub returns-clause-told : goal.returns-clause-told
returns-clause-told c = commands_told

pub returns-clause-stamp : goal.returns-clause-stamp
returns-clause-stamp c = lists-stamped

pub returns-clause-spoken : goal.returns-clause-spoken
returns-clause-spoken c desk command now = says-command_step desk now command
