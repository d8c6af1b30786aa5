use Rattle.std.proofs.Common.{◌+◌, ◌<◌, ◌≤◌, [], ◌∷◌, ◌++◌, map, sym, ap, subst, ◌∙◌, arith}
use Rattle.drop_ledger.specs.Counted.{count_of, count_rows}
use Rattle.drop_ledger.specs.SortKeys.{sort_key_of_count, with_count}
use Rattle.drop_ledger.specs.Ledger.{count_row, counts_of, times_ruled}
use Rattle.drop_ledger.proofs.LedgerLaws.{counted_few, counts_more}
use Rattle.drop_ledger.proofs.counting.count_ruling.Goals as goal

pub returns-clause-counted : goal.returns-clause-counted
unfolding counts_of
returns-clause-counted c = λ done are few.
    let less : count_of (sort_key_of_count (count_row c.args.ruled.now)) (map sort_key_of_count (map count_row done)) ≤ times_ruled c.args.ruled.now.mac c.args.ruled.now.side done = counted_few c.args.ruled.now done in
    let fits : count_of (sort_key_of_count (count_row c.args.ruled.now)) (map sort_key_of_count (map count_row done)) + 1 < 18446744073709551616 = omega arith in
    c.count_one.ensures.counted (map count_row done) are (subst (λ r. count_of (sort_key_of_count r) (map sort_key_of_count (map count_row done)) + 1 < 18446744073709551616) (sym c.count_row.ensures) fits)
    ∙ ap (λ r. count_rows sort_key_of_count with_count (map count_row done ++ r ∷ [])) c.count_row.ensures
    ∙ counts_more done c.args.ruled.now
