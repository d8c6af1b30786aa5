use Rattle.std.proofs.Common.{◌+◌, ◌<◌, length, sym, subst, arith}
use Rattle.acl_buckets.specs.RowParts.{AreKept}
use Rattle.acl_buckets.proofs.RoomLaws.{kept_itself, kept_twice, kept_set, bucket_of}
use Rattle.acl_buckets.proofs.ClearLaws.{AreClearing, clearing_none, clearing_same, clearing_next, all_cleared}
use Rattle.acl_buckets.proofs.row_parts.clear_for.Goals as goal
use Rattle.acl_buckets.proofs.row_parts.clear_for.Goals.{then-number-visited, else-number-visited}

pub loop-edit-init : goal.loop-edit-init
loop-edit-init c = record {
  kept = kept_itself c.args.buckets.now.items c.requires.sorted;
  clearing = clearing_none c.args.edits.now.rows c.args.buckets.now.items _ (omega arith);
}

pub index_mut-requires : goal.index_mut-requires
index_mut-requires c =
    let lt = bucket_of c.args.edits.now.rows c.rows-edit-items.result.now c.args.buckets.now.len c.loop-edit.edit-index c.edit-item.result c.rows-edit-items.ensures.rows c.requires.bucketed c.loop-edit-test.true c.edit-item.is in
    omega (arith, lt, c.number_of-number.ensures.number, c.loop-edit.invariant.kept.len, c.loop-edit.buckets.ok.0, c.args.buckets.now.ok.0)

pub loop-edit-preserved : goal.loop-edit-preserved
loop-edit-preserved c =
    let old = c.args.buckets.now.items in
    let new = c.loop-edit.buckets.items in
    let lt = bucket_of c.args.edits.now.rows c.rows-edit-items.result.now c.args.buckets.now.len c.loop-edit.edit-index c.edit-item.result c.rows-edit-items.ensures.rows c.requires.bucketed c.loop-edit-test.true c.edit-item.is in
    let within : c.number_of-number.result < length new = omega (arith, lt, c.number_of-number.ensures.number, c.loop-edit.invariant.kept.len, c.args.buckets.now.ok.0) in
    let within' : c.number_of-number.result < length old = omega (arith, lt, c.number_of-number.ensures.number, c.args.buckets.now.ok.0) in
    elim c.if-number-visited.branch [
      | then-number-visited w ↦ record {
        kept =
            subst (λ v. AreKept old v.items) (sym w.buckets-is)
            (kept_twice old new _ c.loop-edit.invariant.kept
            (kept_set new c.number_of-number.result w.index_mut.result.now w.clear.new.self c.loop-edit.invariant.kept.sorted within w.index_mut.ensures.value w.clear.ensures.owner w.clear.ensures.side w.clear.ensures.rows));
        clearing =
            subst (λ v. AreClearing c.args.edits.now.rows old v.items (c.loop-edit.edit-index + 1) c.if-number-visited.visited) (sym w.buckets-is)
            (subst (AreClearing c.args.edits.now.rows old _ (c.loop-edit.edit-index + 1)) (sym w.visited-is)
            (clearing_next c.args.edits.now.rows c.rows-edit-items.result.now old new c.loop-edit.edit-index c.loop-edit.visited c.edit-item.result c.rows-edit-items.ensures.rows c.loop-edit-test.true c.edit-item.is c.number_of-number.result w.index_mut.result.now w.clear.new.self c.number_of-number.ensures.number within w.index_mut.ensures.value w.clear.ensures.cleared c.loop-edit.invariant.clearing));
      }
      | else-number-visited w ↦ record {
        kept = subst (λ v. AreKept old v.items) (sym w.buckets-is) c.loop-edit.invariant.kept;
        clearing =
            subst (λ v. AreClearing c.args.edits.now.rows old v.items (c.loop-edit.edit-index + 1) c.if-number-visited.visited) (sym w.buckets-is)
            (subst (AreClearing c.args.edits.now.rows old _ (c.loop-edit.edit-index + 1)) (sym w.visited-is)
            (clearing_same c.args.edits.now.rows c.rows-edit-items.result.now old new c.loop-edit.edit-index c.loop-edit.visited c.edit-item.result c.rows-edit-items.ensures.rows c.loop-edit-test.true c.edit-item.is c.number_of-number.result c.number_of-number.ensures.number within' w.if-number-visited.false c.loop-edit.invariant.clearing));
      }
    ]

pub returns-clause-cleared : goal.returns-clause-cleared
returns-clause-cleared c = all_cleared c.args.edits.now.rows c.rows-edit-items.result.now c.args.buckets.now.items c.loop-edit.buckets.items c.loop-edit.edit-index c.loop-edit.visited c.rows-edit-items.ensures.rows c.loop-edit-test.false c.loop-edit.invariant.clearing
