use Rattle.table_model.proofs.ReadThings.{sound-push, follows-sound}
use Rattle.table_model.proofs.thing_laws.things_are_read_sound.Goals as goal

pub returns-clause-push : goal.returns-clause-push
returns-clause-push c = sound-push

pub returns-clause-follows : goal.returns-clause-follows
returns-clause-follows c = follows-sound
