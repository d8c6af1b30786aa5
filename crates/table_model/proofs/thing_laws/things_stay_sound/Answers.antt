use Rattle.std.proofs.Common.{Ok, Err}
use Rattle.std.specs.Prelude.{IfOk}
use Rattle.table_model.specs.Things.{IsSoundThings}
use Rattle.table_model.specs.ThingCommands.{ThingStep, url_step, move_step, remove_step, hold_step, release_step, lease_step, end_step}
use Rattle.table_model.proofs.SoundThings.{OfAfter, sound-url_step, sound-move_step, sound-remove_step, sound-hold_step, sound-release_step, sound-lease_step, sound-end_step}
use Rattle.table_model.proofs.thing_laws.things_stay_sound.Goals as goal

told : (step : ThingStep) → OfAfter IsSoundThings step → IfOk step (λ after. IsSoundThings after.things)
told (Ok after) sound = sound
told (Err fault) sound = tt

pub returns-clause-url : goal.returns-clause-url
returns-clause-url c things sound mac url six e = told (url_step mac url things) (sound-url_step things sound mac url six e)

pub returns-clause-moves : goal.returns-clause-moves
returns-clause-moves c things sound mac url = told (move_step mac url things) (sound-move_step things sound mac url)

pub returns-clause-removes : goal.returns-clause-removes
returns-clause-removes c things sound mac = told (remove_step mac things) (sound-remove_step things sound mac)

pub returns-clause-hold : goal.returns-clause-hold
returns-clause-hold c things sound mac = told (hold_step mac things) (sound-hold_step things sound mac)

pub returns-clause-release : goal.returns-clause-release
returns-clause-release c things sound mac = told (release_step mac things) (sound-release_step things sound mac)

pub returns-clause-lease : goal.returns-clause-lease
returns-clause-lease c things sound mac a seconds now heard fits early short = told (lease_step mac a seconds now heard things) (sound-lease_step things sound mac a seconds now heard fits early short)

pub returns-clause-ends : goal.returns-clause-ends
returns-clause-ends c things sound a = told (end_step a things) (sound-end_step things sound a)
