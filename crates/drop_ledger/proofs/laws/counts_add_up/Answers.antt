use Rattle.drop_ledger.specs.Seen.{totals_in}
use Rattle.drop_ledger.proofs.LedgerLaws.{counts_sum, rulings_sum}
use Rattle.drop_ledger.proofs.laws.counts_add_up.Goals as goal

pub returns-clause-counts : goal.returns-clause-counts
returns-clause-counts c = counts_sum

pub returns-clause-rulings : goal.returns-clause-rulings
unfolding totals_in
returns-clause-rulings c = rulings_sum
