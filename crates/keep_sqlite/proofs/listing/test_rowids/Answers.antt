use Rattle.std.proofs.Common.{◌≡◌, [], inl, IsTrue, IsSorted, map, sym, subst, ◌∙◌, rules}
use Rattle.std.specs.Ordering.{int_cmp}
use Rattle.sqlite.specs.Held.{state}
use Rattle.sqlite.specs.State.{FailsToQuery}
use Rattle.keep_sqlite.specs.Refused.{ids_text, IsUnread}
use Rattle.keep_sqlite.specs.Rows.{HoldsItems}
use Rattle.keep_sqlite.specs.Selections.{ShowsId, shown_id, number_shown, AreUnequal}
use Rattle.keep_sqlite.proofs.Opens.{rows_have, distinct_rows}
use Rattle.keep_sqlite.proofs.Unread.{unread_as, ids_are_shown, numbers_sorted, shown_distinct, unequal_in}
use Rattle.keep_sqlite.proofs.listing.test_rowids.Goals as goal

pub returns-clause-ok : goal.returns-clause-ok
returns-clause-ok g c clean =
    let rows = (state g.S.Store c.args.connection.now).now.trees 0 in
    let all = c.in-Ok.ensures.ok clean in
    let answer = c.in-Ok.rows.items in
    let is : c.in_ok-ids.ids ≡ map number_shown answer = rw c.as_slice.ensures.value at c.in_ok-ids.ensures.ids in
    let held : IsTrue c.are_rising.result = c.if-not-are_rising.false in
    let rise : AreUnequal c.in_ok-ids.ids = rw c.as_slice-2.ensures at (c.are_rising.ensures.unequal held) in
    (all.0, (rows_have ShowsId shown_id rows answer all.1 (rw c.as_slice.ensures.value at c.in_ok-ids.ensures.shown), distinct_rows rows answer all.1 (subst AreUnequal is rise)))

pub returns-in_err-ids-clause-refused : goal.returns-in_err-ids-clause-refused
returns-in_err-ids-clause-refused g c clean =
    let old = state g.S.Store c.args.connection.now in
    let all = c.in-Ok.ensures.ok clean in
    let answer = c.in-Ok.rows.items in
    let new = state g.S.Store c.select_rowids.new.connection in
    let refused : IsUnread (FailsToQuery ids_text [] old new) (HoldsItems old.now) c.in_err-ids.field-0.0 =
    unread_as c.in_err-ids.field-0.0 (λ e none. absurd none) (λ holds. ids_are_shown old.now answer holds all.1) (rw c.as_slice.ensures.value at c.in_err-ids.ensures.refused) in
    search rules

pub returns-then-not-are_rising-clause-refused : goal.returns-then-not-are_rising-clause-refused
returns-then-not-are_rising-clause-refused g c clean =
    let old = state g.S.Store c.args.connection.now in
    let all = c.in-Ok.ensures.ok clean in
    let answer = c.in-Ok.rows.items in
    let is : c.in_ok-ids.ids ≡ map number_shown answer = rw c.as_slice.ensures.value at c.in_ok-ids.ensures.ids in
    inl (λ holds.
    let apart = unequal_in (map shown_id (old.now.trees 0)) answer all.1 (shown_distinct (old.now.trees 0) holds.distinct) in
    let sorted = numbers_sorted answer (ids_are_shown old.now answer holds all.1) (c.in-Ok.ensures.ordered clean) in
    let here = c.as_slice-2.ensures ∙ is in
    let back : IsTrue c.are_rising.result = c.are_rising.ensures.back (subst (IsSorted int_cmp) (sym here) sorted) (subst AreUnequal (sym here) apart) in
    absurd (search rules))
