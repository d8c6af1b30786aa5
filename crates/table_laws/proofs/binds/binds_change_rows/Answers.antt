use Rattle.table_model.specs.BindCommands.{bind_step, unbind_step, observe_step}
use Rattle.table_model.specs.BindRowChanges.{bind_change, unbind_change, observe_change}
use Rattle.table_laws.proofs.BindRows.{bind_makes, unbind_makes, observe_makes, class_rows, name_rows}
use Rattle.table_laws.proofs.binds.binds_change_rows.Goals as goal

pub returns-clause-bind : goal.returns-clause-bind
returns-clause-bind c classes class a = class_rows classes (bind_change class a classes) (bind_step class a classes) (bind_makes class a classes)

pub returns-clause-unbind : goal.returns-clause-unbind
returns-clause-unbind c classes class a = class_rows classes (unbind_change class a classes) (unbind_step class a classes) (unbind_makes class a classes)

pub returns-clause-observe : goal.returns-clause-observe
returns-clause-observe c names sound name a ttl now = name_rows names (observe_change name a ttl now names) (observe_step name a ttl now names) (observe_makes name a ttl now names sound.ascend)
