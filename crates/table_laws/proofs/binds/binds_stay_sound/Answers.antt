use Rattle.table_model.specs.BindCommands.{bind_step, unbind_step, locals_step, observe_step, bind_class_step, unbind_class_step, set_locals_step, observe_name_step}
use Rattle.table_laws.proofs.SoundClasses.{sound-bind_step, sound-unbind_step}
use Rattle.table_laws.proofs.SoundLocals.{sound-locals_step}
use Rattle.table_laws.proofs.SoundNames.{sound-observe_step}
use Rattle.table_laws.proofs.BindLaws.{classes_sound, locals_sound, names_sound}
use Rattle.table_laws.proofs.binds.binds_stay_sound.Goals as goal

pub returns-clause-bind : goal.returns-clause-bind
unfolding bind_class_step
returns-clause-bind c binds sound class a e fits = classes_sound binds sound (bind_step class a binds.classes) (sound-bind_step class a binds.classes sound.classes e fits)

pub returns-clause-unbind : goal.returns-clause-unbind
unfolding unbind_class_step
returns-clause-unbind c binds sound class a e = classes_sound binds sound (unbind_step class a binds.classes) (sound-unbind_step class a binds.classes sound.classes e)

pub returns-clause-locals : goal.returns-clause-locals
unfolding set_locals_step
returns-clause-locals c binds sound prefixes each = locals_sound binds sound (locals_step prefixes binds.locals) (sound-locals_step prefixes binds.locals each sound.locals)

pub returns-clause-observe : goal.returns-clause-observe
unfolding observe_name_step
returns-clause-observe c binds sound name a ttl now e fits early short = names_sound binds sound (observe_step name a ttl now binds.names) (sound-observe_step name a ttl now binds.names sound.names e fits early short)
