use Rattle.drop_ledger.proofs.NumberLaws.{one_counted}
use Rattle.drop_ledger.proofs.counted.count_one.Goals as goal

pub returns-clause-counted : goal.returns-clause-counted
returns-clause-counted g c = λ xs are few.
    one_counted g.R.Sortable.sort_key g.R.Tallied.counted g.met.R.Tallied.stays g.R.Tallied.count g.met.R.Tallied.told xs c.args.row c.with_count.result c.next_count-count.result c.args.rows.now.rows c.put.new.self.rows
    are few c.next_count-count.ensures.none c.next_count-count.ensures.some c.with_count.ensures c.put.ensures.rows
