use Rattle.table_model.proofs.ToldThings.{told-url_step, told-move_step, told-remove_step, told-hold_step, told-release_step, told-lease_step, told-end_step}
use Rattle.table_model.proofs.thing_laws.things_change_as_told.Goals as goal

pub returns-clause-url : goal.returns-clause-url
returns-clause-url c things sound mac url = told-url_step things sound.ascend mac url

pub returns-clause-moves : goal.returns-clause-moves
returns-clause-moves c things sound mac url = told-move_step things sound.ascend mac url

pub returns-clause-removes : goal.returns-clause-removes
returns-clause-removes c things sound mac = told-remove_step things sound.ascend mac

pub returns-clause-hold : goal.returns-clause-hold
returns-clause-hold c things sound mac = told-hold_step things sound.ascend mac

pub returns-clause-release : goal.returns-clause-release
returns-clause-release c things sound mac = told-release_step things sound.ascend mac

pub returns-clause-lease : goal.returns-clause-lease
returns-clause-lease c things sound mac a seconds now heard = told-lease_step things sound.ascend mac a seconds now heard

pub returns-clause-ends : goal.returns-clause-ends
returns-clause-ends c things sound a = told-end_step things sound.ascend a
