use Rattle.std.proofs.Common.{◌-◌, length, get_or, sym, subst, arith}
use Rattle.acl_rows.specs.ByAddress.{IsEditAt}
use Rattle.acl_buckets.proofs.LastLaws.{own_last, own_more, others_none, none_first}
use Rattle.acl_buckets.proofs.RoomLaws.{own_peer}
use Rattle.acl_buckets.proofs.row_parts.last_peer.Goals as goal

pub loop-start-init : goal.loop-start-init
loop-start-init c = record {
  end = omega (arith, c.requires.some);
  own =
      own_last c.peer-peer.result.owner c.peer-peer.result.side c.peer-peer.result.addr c.args.edits.now (length c.args.edits.now - 1) c.index-edits-start.result (omega (arith, c.requires.some)) c.index-edits-start.is
      (subst (IsEditAt c.peer-peer.result.owner c.peer-peer.result.side c.peer-peer.result.addr) (sym c.index-edits-start.is)
      (own_peer (get_or c.args.edits.now (length c.args.edits.now - 1) c.index-edits-start.result) c.key.result c.peer-peer.result c.key.ensures c.peer-peer.ensures));
}

pub loop-start-preserved : goal.loop-start-preserved
loop-start-preserved c = record {
  end = omega (arith, c.loop-start.invariant.end);
  own =
      own_more c.peer-peer.result.owner c.peer-peer.result.side c.peer-peer.result.addr c.args.edits.now c.loop-start.start c.index-edits-start-in-loop-start.result c.loop-start-test.true c.loop-start.invariant.end c.index-edits-start-in-loop-start.is
      (sym c.if-not-is_of.ensures) c.loop-start.invariant.own;
}

pub returns-then-not-is_of-clause-others : goal.returns-then-not-is_of-clause-others
returns-then-not-is_of-clause-others c =
    others_none c.peer-peer.result.owner c.peer-peer.result.side c.peer-peer.result.addr c.args.edits.now c.loop-start.start c.index-edits-start-in-loop-start.result c.requires.ascend c.loop-start-test.true c.loop-start.invariant.end c.index-edits-start-in-loop-start.is
    (sym c.if-not-is_of.ensures) c.loop-start.invariant.own

pub returns-clause-others : goal.returns-clause-others
returns-clause-others c = none_first c.peer-peer.result.owner c.peer-peer.result.side c.peer-peer.result.addr c.args.edits.now c.loop-start.start c.loop-start-test.false
