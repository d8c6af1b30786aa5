use Rattle.drop_ledger.specs.Counted.{kinds}
use Rattle.drop_ledger.proofs.FirstRows.{first_few}
use Rattle.drop_ledger.proofs.counted_laws.first_ones_are_few.Goals as goal

pub returns : goal.returns
returns g c = λ other_of len most xs t are at.
    first_few (kinds g.D.Sortable.sort_key g.D.Tallied.counted g.O.Sortable.sort_key g.O.Tallied.counted other_of len most) are g.met.D.Tallied.stays g.D.Tallied.count g.met.D.Tallied.told xs t at
