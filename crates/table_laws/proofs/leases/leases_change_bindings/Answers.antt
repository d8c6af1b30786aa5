use Rattle.table_laws.proofs.LeaseStep.{lease_binds}
use Rattle.table_laws.proofs.leases.leases_change_bindings.Goals as goal

pub returns : goal.returns
returns c = lease_binds
