use Rattle.std.proofs.Common.{◌<◌, length, sym, ap, ◌∙◌, arith}
use Rattle.std.proofs.lemmas.Result.{on_ok_weaker}
use Rattle.acl_rows.specs.ByAddress.{IsEditAt}
use Rattle.acl_buckets.proofs.Forgotten.{take_itself, take_set}
use Rattle.acl_buckets.proofs.RoomLaws.{same_room, own_peer, own_within, roomier_set, reserved_room}
use Rattle.acl_buckets.proofs.row_parts.reserve_peer.Goals as goal

pub returns-then-is_of-clause-ok : goal.returns-then-is_of-clause-ok
returns-then-is_of-clause-ok c =
    same_room c.args.edits.now.rows c.args.buckets.now.items c.in-Some.last.owner c.in-Some.last.side c.in-Some.last.addr c.args.edit.now (sym c.is_of.ensures ∙ c.if-is_of.true) (c.requires.done c.in-Some.last c.in-Some.is)

pub returns-clause-kept : goal.returns-clause-kept
returns-clause-kept c =
    let own : IsEditAt c.peer-peer.result.owner c.peer-peer.result.side c.peer-peer.result.addr c.args.edit.now = own_peer c.args.edit.now c.key.result c.peer-peer.result c.key.ensures c.peer-peer.ensures in
    let within : c.number_of.result < length c.args.buckets.now.items = own_within c.peer-peer.result.owner c.peer-peer.result.side c.peer-peer.result.addr c.args.edit.now c.number_of.result (length c.args.buckets.now.items) own c.number_of.ensures.number (omega (arith, c.requires.bucketed, c.args.buckets.now.ok.0)) in
    roomier_set c.args.buckets.now.items c.number_of.result c.index_mut.result.now c.reserve.new.self c.requires.sorted within c.index_mut.ensures.value c.reserve.ensures.kept

pub returns-clause-ok : goal.returns-clause-ok
returns-clause-ok c =
    let own : IsEditAt c.peer-peer.result.owner c.peer-peer.result.side c.peer-peer.result.addr c.args.edit.now = own_peer c.args.edit.now c.key.result c.peer-peer.result c.key.ensures c.peer-peer.ensures in
    let within : c.number_of.result < length c.args.buckets.now.items = own_within c.peer-peer.result.owner c.peer-peer.result.side c.peer-peer.result.addr c.args.edit.now c.number_of.result (length c.args.buckets.now.items) own c.number_of.ensures.number (omega (arith, c.requires.bucketed, c.args.buckets.now.ok.0)) in
    on_ok_weaker c.reserve.result (λ enough. reserved_room c.args.edits.now.rows c.args.buckets.now.items c.peer-peer.result.owner c.peer-peer.result.side c.peer-peer.result.addr c.args.edit.now c.number_of.result (length c.rows_under-more.result.now) c.reserve.new.self own c.number_of.ensures.number within (ap length c.rows_under-more.ensures) enough) c.reserve.ensures.ok

pub returns-then-is_of-clause-most : goal.returns-then-is_of-clause-most
returns-then-is_of-clause-most c = take_itself 1 c.args.buckets.now.items

pub returns-clause-most : goal.returns-clause-most
returns-clause-most c =
    let own : IsEditAt c.peer-peer.result.owner c.peer-peer.result.side c.peer-peer.result.addr c.args.edit.now = own_peer c.args.edit.now c.key.result c.peer-peer.result c.key.ensures c.peer-peer.ensures in
    let within : c.number_of.result < length c.args.buckets.now.items = own_within c.peer-peer.result.owner c.peer-peer.result.side c.peer-peer.result.addr c.args.edit.now c.number_of.result (length c.args.buckets.now.items) own c.number_of.ensures.number (omega (arith, c.requires.bucketed, c.args.buckets.now.ok.0)) in
    take_set c.args.buckets.now.items c.number_of.result c.index_mut.result.now c.reserve.new.self within c.index_mut.ensures.value c.reserve.ensures.most c.reserve.ensures.kept.limit
