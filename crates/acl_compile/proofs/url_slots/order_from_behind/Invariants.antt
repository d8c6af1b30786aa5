use Rattle.std.proofs.Common.{◌-◌, ◌≡◌, ◌≤◌, min, length, reverse, drop}
use Rattle.base_rows.specs.Sortable.{sort_key_cmp}
use Rattle.acl_compile.proofs.url_slots.order_from_behind.Given as goal

-- the last octets are the same, so those in front of them decide
abbrev pub invariant-loop-left : goal.invariant-loop-left
invariant-loop-left l = (l.both ≡ min (length l.own) (length l.other)) × (l.left ≤ l.both) × (sort_key_cmp (drop (l.both - l.left) (reverse l.own)) (drop (l.both - l.left) (reverse l.other)) ≡ sort_key_cmp (reverse l.own) (reverse l.other))

abbrev pub decreases-loop-left : goal.decreases-loop-left
decreases-loop-left l = l.left
