use Rattle.desk_model.proofs.Sessions.{runs_sound, runs_push, runs_history}
use Rattle.desk_model.proofs.session_laws.sessions_run.Goals as goal

pub returns-clause-sound : goal.returns-clause-sound
returns-clause-sound c = runs_sound

pub returns-clause-history : goal.returns-clause-history
returns-clause-history c = runs_history

pub returns-clause-push : goal.returns-clause-push
returns-clause-push c = runs_push
