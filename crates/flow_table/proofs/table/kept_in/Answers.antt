use Rattle.std.proofs.Common.{ap}
use Rattle.flow_table.specs.Held.{slot_at, filled}
use Rattle.flow_table.proofs.table.kept_in.Goals as goal

pub returns-in-Some : goal.returns-in-Some
unfolding slot_at filled
returns-in-Some c = ap filled c.in-Some.ensures

pub returns-in-None : goal.returns-in-None
unfolding slot_at filled
returns-in-None c = ap filled c.in-None.ensures
