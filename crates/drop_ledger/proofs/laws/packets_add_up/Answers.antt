use Rattle.drop_ledger.proofs.TallyLaws.{totals_sums}
use Rattle.drop_ledger.proofs.laws.packets_add_up.Goals as goal

pub returns : goal.returns
returns c = totals_sums
