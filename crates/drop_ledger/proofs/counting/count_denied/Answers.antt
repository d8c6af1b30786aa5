use Rattle.std.proofs.Common.{◌≡◌, ◌≤◌, length, map, take, Some, None, sym, ap, subst, ◌∙◌, arith}
use Rattle.std.proofs.lemmas.List.{append-nil}
use Rattle.drop_ledger.specs.Counted.{AreFirstRows, those_of}
use Rattle.drop_ledger.specs.SortKeys.{sort_key_of_denied, sort_key_of_other}
use Rattle.drop_ledger.specs.Ledger.{denied_row, denials, denied_kinds, times_ruled}
use Rattle.drop_ledger.proofs.LedgerLaws.{denied_are_kinds, denied_few, denials_more}
use Rattle.drop_ledger.proofs.counting.count_denied.Goals as goal
use Rattle.drop_ledger.proofs.Parts.{other_row}

pub returns-in-Some-clause-counted : goal.returns-in-Some-clause-counted
returns-in-Some-clause-counted c = λ done are few.
    let row = c.in-Some.row in
    let is : denied_row c.args.ruled.now ≡ Some row = sym c.denied_row.ensures ∙ c.in-Some.is in
    let less : length (those_of (take 7 (sort_key_of_denied row)) (map sort_key_of_denied (denials done))) ≤ times_ruled c.args.ruled.now.mac c.args.ruled.now.side done = denied_few c.args.ruled.now row done is in
    subst (λ rows. AreFirstRows denied_kinds rows c.count_first.new.rows.rows c.count_first.new.others.rows) (sym (denials_more done c.args.ruled.now (Some row) is))
    (c.count_first.ensures.counted 7 other_row (denials done) denied_are_kinds c.other_row-other.ensures (ap sort_key_of_other c.other_row-other.ensures ∙ denied_are_kinds.own row) are (omega arith))

pub returns-in_default-clause-counted : goal.returns-in_default-clause-counted
returns-in_default-clause-counted c = λ done are few.
    let is : denied_row c.args.ruled.now ≡ None = sym c.denied_row.ensures ∙ c.in_default.is in
    subst (λ rows. AreFirstRows denied_kinds rows c.args.denied.now.rows c.args.others.now.rows) (sym (denials_more done c.args.ruled.now None is ∙ append-nil (denials done))) are
