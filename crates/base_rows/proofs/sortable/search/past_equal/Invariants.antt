use Rattle.std.proofs.Common.{◌-◌, ◌≡◌, ◌+◌, ◌<◌, ◌≤◌, map}
use Rattle.base_rows.specs.Search.{AllEqualWithin}
use Rattle.base_rows.proofs.sortable.search.past_equal.Given as goal

-- each row from where the rows were met up to this one is `Equal`, and each but the first was read once
abbrev pub invariant-loop-past : goal.invariant-loop-past
invariant-loop-past g l = (l.at < l.past) × (l.past ≤ l.end) × AllEqualWithin (map (g.P.Probe.against l.probe) l.rows) l.at l.past × (l.steps + l.at + 1 ≡ l.fn.steps + l.past)

abbrev pub decreases-loop-past : goal.decreases-loop-past
decreases-loop-past g l = l.end - l.past
