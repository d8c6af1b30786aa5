use Rattle.desk_model.proofs.Sessions.{refused_same, command_history, command_moment, judged_desk, judged_moment}
use Rattle.desk_model.proofs.session_laws.sessions_keep.Goals as goal

pub returns-clause-history : goal.returns-clause-history
returns-clause-history c session now command reply after may = command_history session now command reply after may

pub returns-clause-moment : goal.returns-clause-moment
returns-clause-moment c session now command reply after may = command_moment session now command reply after may

pub returns-clause-refused : goal.returns-clause-refused
returns-clause-refused c session now command refusal e = refused_same session now command refusal e

pub returns-clause-judged : goal.returns-clause-judged
returns-clause-judged c session now frame verdict after may = (judged_desk session now frame verdict after may, judged_moment session now frame verdict after may)
