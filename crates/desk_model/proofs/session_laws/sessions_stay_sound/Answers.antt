use Rattle.desk_model.proofs.Sessions.{opened_sound, raised_sound, command_sound, judged_sound}
use Rattle.desk_model.proofs.session_laws.sessions_stay_sound.Goals as goal

pub returns-clause-opened : goal.returns-clause-opened
returns-clause-opened c = opened_sound

pub returns-clause-command : goal.returns-clause-command
returns-clause-command c session sound now command early is reply after may = command_sound session now sound command early is reply after may

pub returns-clause-frame : goal.returns-clause-frame
returns-clause-frame c session sound now frame early verdict after may = judged_sound session now sound frame early verdict after may

pub returns-clause-raise : goal.returns-clause-raise
returns-clause-raise c = raised_sound
