use Rattle.std.proofs.Common.{refl, arith}
use Rattle.drop_ledger.specs.Counted.{count_rows, first_rows, late_rows}
use Rattle.drop_ledger.specs.Seen.{totals_in, rulings}
use Rattle.drop_ledger.specs.Ledger.{counts_of, denials, hour_in}
use Rattle.drop_ledger.proofs.tally.Tally.new.Goals as goal

pub returns : goal.returns
unfolding totals_in rulings counts_of count_rows denials first_rows late_rows hour_in
returns c = record {
  totals = refl;
  hour = refl;
  counts = c.new.ensures.rows;
  denied = record { rows = c.new-2.ensures.rows; others = c.new-3.ensures.rows };
  few = omega arith;
}
