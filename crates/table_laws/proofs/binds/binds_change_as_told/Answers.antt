use Rattle.std.proofs.Common.{◌+◌}
use Rattle.table_model.specs.BindCommands.{bind_step, unbind_step, locals_step, observe_step, bind_class_step, unbind_class_step, set_locals_step, observe_name_step}
use Rattle.table_laws.proofs.BindChanges.{bind_tells, unbind_tells, locals_tell, observe_tells, sooner}
use Rattle.table_laws.proofs.BindLaws.{classes_told, locals_told, names_told}
use Rattle.table_laws.proofs.binds.binds_change_as_told.Goals as goal

pub returns-clause-bind : goal.returns-clause-bind
unfolding bind_class_step
returns-clause-bind c binds class a = classes_told binds class a (bind_step class a binds.classes) (bind_tells class a binds.classes)

pub returns-clause-unbind : goal.returns-clause-unbind
unfolding unbind_class_step
returns-clause-unbind c binds sound class a = classes_told binds class a (unbind_step class a binds.classes) (unbind_tells class a binds.classes sound.classes.ascend)

pub returns-clause-locals : goal.returns-clause-locals
unfolding set_locals_step
returns-clause-locals c binds prefixes = locals_told binds prefixes (locals_step prefixes binds.locals) (locals_tell prefixes binds.locals)

pub returns-clause-observe : goal.returns-clause-observe
unfolding observe_name_step
returns-clause-observe c binds name a ttl now some = names_told binds name a (now + ttl) now (sooner now ttl some) (observe_step name a ttl now binds.names) (observe_tells name a ttl now binds.names some)
