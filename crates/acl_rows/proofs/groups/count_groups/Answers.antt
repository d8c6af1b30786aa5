use Rattle.std.proofs.Common.{◌≡◌, ◌∷◌, ◌+◌, ◌++◌, List, length, length-append, ap, sym, ◌∙◌, arith}
use Rattle.std.specs.Map.{values_of}
use Rattle.base_rows.specs.Sortable.{RowsAndRoom}
use Rattle.acl_rows.specs.declared.row.Row.{Row}
use Rattle.acl_rows.proofs.GroupLaws.{rows_together, together_grouped}
use Rattle.acl_rows.proofs.groups.count_groups.Goals as goal

pub loop-group-init : goal.loop-group-init
loop-group-init g c =
    let first : c.into_iter-group-iterator.result ≡ values_of c.args.groups.now.entries = c.into_iter-group-iterator.ensures.into_iter_gives ∙ c.values-group-items.ensures.rest in
    ap (λ (gs : List (RowsAndRoom Row)). c.args.steps.now + length (rows_together gs)) first ∙ ap (λ (rs : List Row). c.args.steps.now + length rs) (together_grouped c.args.groups.now.entries)

pub loop-group-preserved : goal.loop-group-preserved
loop-group-preserved g c =
    let first : c.loop-group.group-iterator ≡ c.in-Some.group.now ∷ c.next.new.self = c.in-Some.ensures.steps in
    let sum : length (rows_together c.loop-group.group-iterator) ≡ length c.in-Some.group.now.rows + length (rows_together c.next.new.self) = ap (λ (gs : List (RowsAndRoom Row)). length (rows_together gs)) first ∙ length-append c.in-Some.group.now.rows (rows_together c.next.new.self) in
    omega (arith, sum, c.loop-group.invariant, c.add.ensures, c.len.ensures)

pub returns : goal.returns
returns g c =
    let none : length (rows_together c.loop-group.group-iterator) ≡ 0 = ap (λ (gs : List (RowsAndRoom Row)). length (rows_together gs)) c.in-None.ensures.steps.0 in
    omega (arith, none, c.loop-group.invariant)
