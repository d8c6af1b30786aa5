use Rattle.std.proofs.Common.{◌≡◌, length, sym, subst, ◌∙◌, arith}
use Rattle.acl_buckets.specs.RowBuckets.{bucket_number}
use Rattle.acl_buckets.specs.RowParts.{AreKept, HaveSameRoom}
use Rattle.acl_buckets.proofs.Forgotten.{same_itself, same_twice, same_push}
use Rattle.acl_buckets.proofs.RoomLaws.{kept_itself, kept_twice, kept_push}
use Rattle.acl_buckets.proofs.row_parts.add_buckets.Goals as goal

pub loop-alloc-init : goal.loop-alloc-init
loop-alloc-init c = record { kept = kept_itself c.args.buckets.now.items c.requires.sorted; same = same_itself c.args.buckets.now.items }

pub loop-alloc-preserved : goal.loop-alloc-preserved
loop-alloc-preserved c =
    let long : c.len-in-loop-alloc.result ≡ length c.loop-alloc.buckets.items = omega (arith, c.len-in-loop-alloc.ensures, c.loop-alloc.buckets.ok.0) in
    record {
      kept =
          kept_twice c.args.buckets.now.items c.loop-alloc.buckets.items c.push.new.self.items c.loop-alloc.invariant.kept
          (subst (AreKept c.loop-alloc.buckets.items) (sym c.in_ok-push.ensures.items)
          (kept_push c.loop-alloc.buckets.items c.new.result c.loop-alloc.invariant.kept.sorted ((λ i. bucket_number (c.new.ensures.owner i) (c.new.ensures.side i)) ∙ c.told_by-owner.ensures ∙ long) c.new.ensures.rows));
      same =
          same_twice c.args.buckets.now.items c.loop-alloc.buckets.items c.push.new.self.items c.loop-alloc.invariant.same
          (subst (HaveSameRoom c.loop-alloc.buckets.items) (sym c.in_ok-push.ensures.items) (same_push c.loop-alloc.buckets.items c.new.result c.new.ensures.room c.new.ensures.limit));
    }
