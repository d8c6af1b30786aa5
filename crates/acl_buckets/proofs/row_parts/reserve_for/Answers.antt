use Rattle.std.proofs.Common.{length, ap, arith}
use Rattle.std.proofs.lemmas.Option.{none-some}
use Rattle.acl_buckets.proofs.Forgotten.{take_itself, take_twice, take_fewer}
use Rattle.acl_buckets.proofs.RoomLaws.{roomier_itself, roomier_twice, next_room, all_room, own_peer, next_last, bucket_of}
use Rattle.acl_buckets.proofs.row_parts.reserve_for.Goals as goal

pub loop-edit-init : goal.loop-edit-init
loop-edit-init c = record { kept = roomier_itself c.args.buckets.now.items c.requires.sorted; most = take_itself 0 c.args.buckets.now.items; each = tt; last = λ p is. absurd (none-some p is) }

pub reserve_peer-requires-clause-sorted : goal.reserve_peer-requires-clause-sorted
reserve_peer-requires-clause-sorted c = c.loop-edit.invariant.kept.kept.sorted

pub reserve_peer-requires-clause-bucketed : goal.reserve_peer-requires-clause-bucketed
reserve_peer-requires-clause-bucketed c =
    let lt = bucket_of c.args.edits.now.rows c.rows-edit-items.result.now c.args.buckets.now.len c.loop-edit.edit-index c.edit-item.result c.rows-edit-items.ensures.rows c.requires.bucketed c.loop-edit-test.true c.edit-item.is in
    omega (arith, lt, c.loop-edit.invariant.kept.kept.len, c.loop-edit.buckets.ok.0, c.args.buckets.now.ok.0)

pub reserve_peer-requires-clause-done : goal.reserve_peer-requires-clause-done
reserve_peer-requires-clause-done c = c.loop-edit.invariant.last

pub loop-edit-preserved : goal.loop-edit-preserved
loop-edit-preserved c = record {
  kept = roomier_twice c.args.buckets.now.items c.loop-edit.buckets.items c.reserve_peer.new.buckets.items c.loop-edit.invariant.kept c.reserve_peer.ensures.kept;
  most = take_twice c.loop-edit.edit-index 1 c.args.buckets.now.items c.loop-edit.buckets.items c.reserve_peer.new.buckets.items c.loop-edit.invariant.most c.reserve_peer.ensures.most;
  each =
      next_room c.args.edits.now.rows c.rows-edit-items.result.now c.loop-edit.buckets.items c.reserve_peer.new.buckets.items c.loop-edit.edit-index c.edit-item.result c.rows-edit-items.ensures.rows c.reserve_peer.ensures.kept c.loop-edit-test.true c.edit-item.is
      c.in_ok-reserve_peer.ensures.ok c.loop-edit.invariant.each;
  last = λ p is.
      next_last c.args.edits.now.rows c.reserve_peer.new.buckets.items c.edit-item.result c.peer.result p (own_peer c.edit-item.result c.key.result c.peer.result c.key.ensures c.peer.ensures) is c.in_ok-reserve_peer.ensures.ok;
}

pub returns-in_err-reserve_peer-clause-kept : goal.returns-in_err-reserve_peer-clause-kept
returns-in_err-reserve_peer-clause-kept c = roomier_twice c.args.buckets.now.items c.loop-edit.buckets.items c.reserve_peer.new.buckets.items c.loop-edit.invariant.kept c.reserve_peer.ensures.kept

pub returns-clause-ok : goal.returns-clause-ok
returns-clause-ok c = all_room c.args.edits.now.rows c.rows-edit-items.result.now c.loop-edit.buckets.items c.loop-edit.edit-index c.rows-edit-items.ensures.rows c.loop-edit-test.false c.loop-edit.invariant.each

pub returns-clause-most : goal.returns-clause-most
returns-clause-most c = take_fewer c.loop-edit.edit-index (length c.args.edits.now.rows) c.args.buckets.now.items c.loop-edit.buckets.items (omega (arith, ap length c.rows-edit-items.ensures.rows)) c.loop-edit.invariant.most
