use Rattle.table_model.specs.BindCommands.{bind_step, unbind_step, observe_step}
use Rattle.table_model.specs.BindRowChanges.{bind_change, unbind_change, observe_change}
use Rattle.table_laws.proofs.SoundClasses.{sound-bind_step, sound-unbind_step}
use Rattle.table_laws.proofs.SoundNames.{sound-observe_step}
use Rattle.table_laws.proofs.BindRows.{bind_makes, unbind_makes, observe_makes, classes_bound, names_bound}
use Rattle.table_laws.proofs.binds.binds_change_bindings.Goals as goal

pub returns-clause-bind : goal.returns-clause-bind
returns-clause-bind c tables sound class a e fits =
    classes_bound tables (bind_change class a tables.classes) (bind_step class a tables.classes) sound (bind_makes class a tables.classes) (sound-bind_step class a tables.classes sound e fits)

pub returns-clause-unbind : goal.returns-clause-unbind
returns-clause-unbind c tables sound class a e =
    classes_bound tables (unbind_change class a tables.classes) (unbind_step class a tables.classes) sound (unbind_makes class a tables.classes) (sound-unbind_step class a tables.classes sound e)

pub returns-clause-observe : goal.returns-clause-observe
returns-clause-observe c tables sound name a ttl now e fits early short =
    names_bound tables (observe_change name a ttl now tables.names) (observe_step name a ttl now tables.names) sound (observe_makes name a ttl now tables.names sound.ascend) (sound-observe_step name a ttl now tables.names sound e fits early short)
