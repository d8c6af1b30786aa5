use Rattle.std.proofs.Common.{List, sym, ap, ◌∙◌, arith}
use Rattle.std.specs.Option.{is_some}
use Rattle.std.proofs.lemmas.List.{drop_all}
use Rattle.base_rows.specs.Sortable.{row_at}
use Rattle.acl_rows.specs.declared.row.Row.{Row}
use Rattle.acl_rows.specs.SortKeys.{row_sort_key}
use Rattle.acl_changes.specs.Fresh.{left_edits}
use Rattle.acl_changes.proofs.FreshLaws.{left_stays, left_goes}
use Rattle.acl_changes.proofs.fresh.plan_left.Goals as goal
use Rattle.acl_changes.proofs.fresh.plan_left.Goals.{then-not-contains+in_ok-add_edit, else-not-contains}

pub loop-row-preserved : goal.loop-row-preserved
loop-row-preserved c =
    let there = c.contains.ensures ∙ ap (λ (rows : List Row). is_some (row_at row_sort_key (row_sort_key c.row-item.result) rows)) c.loop-row.invariant.rows in
    record {
      index = omega (arith, c.loop-row.invariant.index);
      rows = elim c.if-not-contains.branch [
        | then-not-contains+in_ok-add_edit w ↦ (λ j. (w.fresh-inside-is j).rows.rows) ∙ c.loop-row.invariant.rows
        | else-not-contains w ↦ (λ j. (w.fresh-inside-is j).rows.rows) ∙ c.loop-row.invariant.rows
      ];
      edits = λ all peer.
          c.loop-row.invariant.edits all peer
          ∙ elim c.if-not-contains.branch [
            | then-not-contains+in_ok-add_edit w ↦
                left_goes all c.args.fresh.now.rows c.args.own.now c.loop-row.row-index c.loop-row.index c.row-item.result c.loop-row.fresh-inside.edits.rows c.if-not-contains.fresh-inside.edits.rows c.requires peer c.loop-row-test.true c.row-item.is c.loop-row.invariant.index
                (sym there ∙ w.if-not-contains.true) ((λ j. (w.fresh-inside-is j).edits.rows) ∙ w.in_ok-add_edit.ensures)
            | else-not-contains w ↦
                left_stays all c.args.fresh.now.rows c.args.own.now c.loop-row.row-index c.row-item.result c.loop-row.fresh-inside.edits.rows c.if-not-contains.fresh-inside.edits.rows c.loop-row-test.true c.row-item.is (sym there ∙ w.if-not-contains.false) (λ j. (w.fresh-inside-is j).edits.rows)
          ];
    }

pub returns-clause-ok : goal.returns-clause-ok
unfolding left_edits
returns-clause-ok c = λ all peer.
    sym (c.loop-row.invariant.edits all peer ∙ ap (λ (rs : List Row). left_edits all c.args.fresh.now.rows rs c.loop-row.fresh-inside.edits.rows) (drop_all c.loop-row.row-index c.args.own.now c.loop-row-test.false))
