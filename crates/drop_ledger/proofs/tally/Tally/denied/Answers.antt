use Rattle.std.proofs.Common.{ap, ◌∙◌}
use Rattle.drop_ledger.specs.Seen.{rulings}
use Rattle.drop_ledger.specs.Ledger.{TallyState, denied_times}
use Rattle.drop_ledger.proofs.LedgerLaws.{denied_sum, rulings_have}
use Rattle.drop_ledger.proofs.tally.Tally.denied.Goals as goal

pub returns-clause-sum : goal.returns-clause-sum
unfolding denied_times
returns-clause-sum c = λ all latest mac side have stands.
    (λ i. denied_times mac side ((c.rows.ensures.rows ∙ ap (λ (t : TallyState). t.denied.rows) c.self.view_is ∙ stands.denied.rows) i) (stands.denied.others i))
    ∙ denied_sum mac side (rulings all) (rulings_have all have)
