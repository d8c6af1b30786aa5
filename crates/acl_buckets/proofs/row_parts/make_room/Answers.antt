use Rattle.std.proofs.Common.{arith}
use Rattle.std.proofs.lemmas.Result.{on_ok_weaker}
use Rattle.acl_buckets.proofs.Forgotten.{all_forgotten}
use Rattle.acl_buckets.proofs.RoomLaws.{kept_twice, buckets_more}
use Rattle.acl_buckets.proofs.row_parts.make_room.Goals as goal

pub clear_for-requires-clause-sorted : goal.clear_for-requires-clause-sorted
clear_for-requires-clause-sorted c = c.add_for.ensures.kept.sorted

pub reserve_for-requires-clause-sorted : goal.reserve_for-requires-clause-sorted
reserve_for-requires-clause-sorted c = c.clear_for.ensures.kept.sorted

pub reserve_for-requires-clause-bucketed : goal.reserve_for-requires-clause-bucketed
reserve_for-requires-clause-bucketed c =
    buckets_more c.args.edits.now.rows c.add_for.new.buckets.len c.clear_for.new.buckets.len (omega (arith, c.clear_for.ensures.kept.len, c.add_for.new.buckets.ok.0, c.clear_for.new.buckets.ok.0)) c.in_ok-add_for.ensures.ok

pub returns-clause-kept : goal.returns-clause-kept
returns-clause-kept c =
    kept_twice c.args.buckets.now.items c.add_for.new.buckets.items c.reserve_for.new.buckets.items c.add_for.ensures.kept
    (kept_twice c.add_for.new.buckets.items c.clear_for.new.buckets.items c.reserve_for.new.buckets.items c.clear_for.ensures.kept c.reserve_for.ensures.kept.kept)

pub returns-clause-forgotten : goal.returns-clause-forgotten
returns-clause-forgotten c =
    on_ok_weaker c.reserve_for.result
    (λ few. all_forgotten c.args.edits.now.rows c.args.buckets.now.items c.add_for.new.buckets.items c.clear_for.new.buckets.items c.reserve_for.new.buckets.items c.add_for.ensures.kept.sorted c.add_for.ensures.kept.rows c.add_for.ensures.same few c.clear_for.ensures.cleared)
    c.reserve_for.ensures.most
