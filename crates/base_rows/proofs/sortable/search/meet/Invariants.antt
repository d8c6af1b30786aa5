use Rattle.std.proofs.Common.{◌≡◌, ◌-◌, ◌≤◌, length, map}
use Rattle.base_rows.proofs.SearchLaws.{IsNarrowed}
use Rattle.base_rows.proofs.sortable.search.meet.Given as goal

abbrev pub invariant-loop-low : goal.invariant-loop-low
invariant-loop-low g l =
    (l.fn.steps ≤ l.steps)
    × IsNarrowed (map (g.P.Probe.against l.probe) l.rows) (l.steps - l.fn.steps) l.low l.high
    × (l.steps ≡ l.fn.steps → length l.rows ≤ l.high - l.low)

abbrev pub decreases-loop-low : goal.decreases-loop-low
decreases-loop-low g l = l.high - l.low
