use Rattle.std.proofs.Common.{ap, ◌∙◌}
use Rattle.drop_ledger.specs.Counted.{total}
use Rattle.drop_ledger.specs.SortKeys.{count_of_row}
use Rattle.drop_ledger.specs.Seen.{rulings}
use Rattle.drop_ledger.specs.Ledger.{TallyState}
use Rattle.drop_ledger.proofs.LedgerLaws.{counts_sum}
use Rattle.drop_ledger.proofs.tally.Tally.counts.Goals as goal

pub returns-clause-sum : goal.returns-clause-sum
returns-clause-sum c = λ all latest stands.
    ap (total count_of_row) (c.rows.ensures.rows ∙ ap (λ (t : TallyState). t.counts.rows) c.self.view_is ∙ stands.counts) ∙ counts_sum (rulings latest)
