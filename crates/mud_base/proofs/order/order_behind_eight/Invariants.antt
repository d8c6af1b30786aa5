use Rattle.std.proofs.Common.{ℕ, ◌-◌, ◌≡◌, ◌≤◌, min, length, drop}
use Rattle.std.specs.Cmp.Lexicographic.{slice_cmp}
use Rattle.std.specs.Ordering.{nat_cmp}
use Rattle.mud_base.proofs.order.order_behind_eight.Given as goal

-- the octets before are the same, so what is from any of these on decides
abbrev pub invariant-loop-offset : goal.invariant-loop-offset
invariant-loop-offset l = record {
  least : l.both ≡ min (length l.own) (length l.other);
  within : l.offset ≤ l.both;
  long : 8 ≤ l.both;
  left : (k : ℕ) → k ≤ l.offset → slice_cmp nat_cmp (drop k l.own) (drop k l.other) ≡ slice_cmp nat_cmp l.own l.other;
}

abbrev pub decreases-loop-offset : goal.decreases-loop-offset
decreases-loop-offset l = l.both - l.offset
