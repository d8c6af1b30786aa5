use Rattle.std.proofs.Common.{◌∙◌}
use Rattle.drop_ledger.specs.Seen.{rulings, totals_in}
use Rattle.drop_ledger.specs.Ledger.{denied_times}
use Rattle.drop_ledger.proofs.LedgerLaws.{denied_sum, rulings_have, rulings_sum}
use Rattle.drop_ledger.proofs.TallyLaws.{totals_sums}
use Rattle.run_packets.specs.Tally.Tallied.{seen_in}
use Rattle.run_packets.proofs.TallyLaws.RulingLaws.{all_fields, all_things, counts_of_hours, times_of_hours}
use Rattle.run_packets.proofs.tally.laws.tally_adds_up.Goals as goal

pub returns-clause-packets : goal.returns-clause-packets
returns-clause-packets c = λ session packets. totals_sums (seen_in session packets)

pub returns-clause-counts : goal.returns-clause-counts
unfolding totals_in
returns-clause-counts c = λ session packets. counts_of_hours (seen_in session packets) ∙ rulings_sum (seen_in session packets) (all_things session packets)

pub returns-clause-denied : goal.returns-clause-denied
unfolding denied_times
returns-clause-denied c = λ session packets mac side.
    denied_sum mac side (rulings (seen_in session packets)) (rulings_have (seen_in session packets) (all_fields session packets))

pub returns-clause-hours : goal.returns-clause-hours
returns-clause-hours c = λ session packets mac side ruling. times_of_hours mac side ruling (seen_in session packets)
