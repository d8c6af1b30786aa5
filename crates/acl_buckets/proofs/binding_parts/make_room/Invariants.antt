use Rattle.std.proofs.Common.{◌≡◌, ◌+◌, ◌≤◌, Some, [], length}
use Rattle.std.specs.Option.{option_copied}
use Rattle.acl_model.specs.declared.binding.MemberKey.{MemberKey}
use Rattle.acl_model.specs.SortKeys.{member_sort_key}
use Rattle.acl_buckets.specs.BindingBuckets.{edits_of_key}
use Rattle.acl_buckets.specs.BindingParts.{part_at, has_bucket, AreRoomier}
use Rattle.acl_buckets.proofs.EditLaws.{HaveOwnRoom}
use Rattle.acl_buckets.proofs.binding_parts.make_room.Given as goal

abbrev pub invariant-loop-edit : goal.invariant-loop-edit
invariant-loop-edit l = record {
  kept : AreRoomier l.initial.buckets.items l.buckets.items;
  most : length l.buckets.items ≤ length l.initial.buckets.items + l.edit-index;
  others : (key : MemberKey) → edits_of_key key l.edits.rows ≡ [] → has_bucket (member_sort_key key) l.buckets.items ≡ has_bucket (member_sort_key key) l.initial.buckets.items;
  each : HaveOwnRoom l.edits.rows l.buckets.items l.edit-index;
  last : (k : MemberKey) → option_copied l.last ≡ Some k → length (edits_of_key k l.edits.rows) ≤ (part_at (member_sort_key k) l.buckets.items).room;
}
