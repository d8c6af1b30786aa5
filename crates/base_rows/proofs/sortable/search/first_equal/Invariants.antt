use Rattle.std.proofs.Common.{◌-◌, ◌≡◌, ◌+◌, ◌≤◌, map}
use Rattle.base_rows.specs.Search.{AllEqualWithin}
use Rattle.base_rows.proofs.sortable.search.first_equal.Given as goal

-- each row from this one up to where the rows were met is `Equal`, and each was read once
abbrev pub invariant-loop-first : goal.invariant-loop-first
invariant-loop-first g l = (l.start ≤ l.first) × (l.first ≤ l.at) × AllEqualWithin (map (g.P.Probe.against l.probe) l.rows) l.first l.at × (l.steps + l.first ≡ l.fn.steps + l.at)

abbrev pub decreases-loop-first : goal.decreases-loop-first
decreases-loop-first g l = l.first - l.start
