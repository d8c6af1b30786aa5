use Rattle.drop_ledger.proofs.NumberLaws.{count_rows_total}
use Rattle.drop_ledger.proofs.counted_laws.counts_add_up.Goals as goal

pub returns : goal.returns
returns g c = count_rows_total g.R.Sortable.sort_key g.R.Tallied.counted g.met.R.Tallied.stays g.R.Tallied.count g.met.R.Tallied.told
