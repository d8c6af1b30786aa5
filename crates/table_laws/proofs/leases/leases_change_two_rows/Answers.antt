use Rattle.std.proofs.Common.{◌≡◌, List, true, Ok, Err}
use Rattle.std.specs.Prelude.{IfOk}
use Rattle.base_rows.specs.Changes.{RowChange, changed, is_plain}
use Rattle.table_model.specs.declared.thing.Thing.{Thing}
use Rattle.table_model.specs.Things.{mac_of}
use Rattle.table_model.specs.ThingCommands.{ThingStep, lease_step}
use Rattle.table_model.specs.ThingChanges.{lease_change}
use Rattle.table_model.proofs.SoundThings.{OfAfter}
use Rattle.table_laws.proofs.LeaseStep.{Leads, lease_leads}
use Rattle.table_laws.proofs.leases.leases_change_two_rows.Goals as goal

made : (things : List Thing) (change : RowChange Thing) (step : ThingStep) → OfAfter (Leads change things) step → IfOk step (λ after. changed mac_of change things ≡ after.things)
made things change (Ok after) leads = leads.is
made things change (Err fault) leads = tt

plainly : (things : List Thing) (change : RowChange Thing) (step : ThingStep) → OfAfter (Leads change things) step → IfOk step (λ after. is_plain mac_of change ≡ true)
plainly things change (Ok after) leads = leads.plain
plainly things change (Err fault) leads = tt

pub returns-clause-rows : goal.returns-clause-rows
returns-clause-rows c things sound mac a seconds now heard = made things (lease_change mac a seconds now things) (lease_step mac a seconds now heard things) (lease_leads things sound mac a seconds now heard)

pub returns-clause-plain : goal.returns-clause-plain
returns-clause-plain c things sound mac a seconds now heard = plainly things (lease_change mac a seconds now things) (lease_step mac a seconds now heard things) (lease_leads things sound mac a seconds now heard)
