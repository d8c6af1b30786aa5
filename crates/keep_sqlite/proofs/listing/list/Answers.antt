use Rattle.std.proofs.Common.{◌≡◌, [], inl, IsTrue, map, sym, subst, ◌∙◌, rules}
use Rattle.mud_world.specs.Items.{IsOrdered}
use Rattle.sqlite.specs.Held.{state}
use Rattle.sqlite.specs.State.{FailsToQuery}
use Rattle.keep_sqlite.specs.Refused.{select_text, IsUnread}
use Rattle.keep_sqlite.specs.Rows.{HoldsItems}
use Rattle.keep_sqlite.specs.Selections.{item_shown, ShowsItem, shown_row}
use Rattle.keep_sqlite.proofs.Opens.{rows_have, shown_items}
use Rattle.keep_sqlite.proofs.Unread.{unread_as, items_are_shown, items_are_ordered}
use Rattle.keep_sqlite.proofs.listing.list.Goals as goal

pub returns-clause-ok : goal.returns-clause-ok
returns-clause-ok g c clean =
    let rows = (state g.S.Store c.args.connection.now).now.trees 0 in
    let all = c.in-Ok.ensures.ok clean in
    let answer = c.in-Ok.rows.items in
    let is : c.in_ok-items.items ≡ map item_shown answer = rw c.as_slice.ensures.value at c.in_ok-items.ensures.items in
    let held : IsTrue c.are_ordered.result = c.if-not-are_ordered.false in
    let up : IsOrdered c.in_ok-items.items = rw c.as_slice-2.ensures at (c.are_ordered.ensures.ordered held) in
    (all.0, rows_have ShowsItem shown_row rows answer all.1 (rw c.as_slice.ensures.value at c.in_ok-items.ensures.shown), is ∙ shown_items rows answer all.1 (subst IsOrdered is up))

pub returns-in_err-items-clause-refused : goal.returns-in_err-items-clause-refused
returns-in_err-items-clause-refused g c clean =
    let old = state g.S.Store c.args.connection.now in
    let all = c.in-Ok.ensures.ok clean in
    let answer = c.in-Ok.rows.items in
    let new = state g.S.Store c.select.new.connection in
    let refused : IsUnread (FailsToQuery select_text [] old new) (HoldsItems old.now) c.in_err-items.field-0.0 =
    unread_as c.in_err-items.field-0.0 (λ e none. absurd none) (λ holds. items_are_shown old.now answer holds all.1) (rw c.as_slice.ensures.value at c.in_err-items.ensures.refused) in
    search rules

pub returns-then-not-are_ordered-clause-refused : goal.returns-then-not-are_ordered-clause-refused
returns-then-not-are_ordered-clause-refused g c clean =
    let old = state g.S.Store c.args.connection.now in
    let all = c.in-Ok.ensures.ok clean in
    let answer = c.in-Ok.rows.items in
    let is : c.in_ok-items.items ≡ map item_shown answer = rw c.as_slice.ensures.value at c.in_ok-items.ensures.items in
    inl (λ holds.
    let up : IsOrdered (map item_shown answer) = items_are_ordered old.now holds answer all.1 (c.in-Ok.ensures.ordered clean) in
    let back : IsTrue c.are_ordered.result = c.are_ordered.ensures.back (subst IsOrdered (sym (c.as_slice-2.ensures ∙ is)) up) in
    absurd (search rules))
