use Rattle.std.proofs.Common.{sym, ap, ◌∙◌}
use Rattle.drop_ledger.specs.Ledger.{TallyState}
use Rattle.drop_ledger.proofs.LedgerLaws.{counts_none, no_counts_no_hour}
use Rattle.drop_ledger.proofs.tally.Tally.hour.Goals as goal

pub returns-clause-none : goal.returns-clause-none
returns-clause-none c = λ all latest stands.
    let same = ap (λ (t : TallyState). t.hour) c.self.view_is in (
      (λ none. stands.counts ∙ counts_none latest (sym stands.hour ∙ sym same ∙ none)),
      (λ empty. same ∙ stands.hour ∙ no_counts_no_hour latest (sym stands.counts ∙ empty)),
    )
