use Rattle.std.proofs.Common.{◌≡◌, Some}
use Rattle.acl_rows.specs.declared.row.Peer.{Peer}
use Rattle.acl_buckets.specs.RowParts.{AreRoomier, TakeAtMost, HasRoomFor}
use Rattle.acl_buckets.proofs.RoomLaws.{HaveOwnRoom}
use Rattle.acl_buckets.proofs.row_parts.reserve_for.Given as goal

abbrev pub invariant-loop-edit : goal.invariant-loop-edit
invariant-loop-edit l = record {
  kept : AreRoomier l.initial.buckets.items l.buckets.items;
  most : TakeAtMost l.edit-index l.initial.buckets.items l.buckets.items;
  each : HaveOwnRoom l.edits.rows l.buckets.items l.edit-index;
  last : (p : Peer) → l.last ≡ Some p → HasRoomFor p.owner p.side p.addr l.edits.rows l.buckets.items;
}
