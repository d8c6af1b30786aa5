use Rattle.drop_ledger.specs.Seen.{rulings}
use Rattle.drop_ledger.specs.Ledger.{denied_times}
use Rattle.drop_ledger.proofs.LedgerLaws.{denied_sum, rulings_have}
use Rattle.drop_ledger.proofs.laws.denied_adds_up.Goals as goal

pub returns : goal.returns
unfolding denied_times
returns c = λ all mac side have. denied_sum mac side (rulings all) (rulings_have all have)
