use Rattle.std.proofs.Common.{◌≡◌, ◌+◌, ◌≤◌, length}
use Rattle.base_rows.specs.Sortable.{set_rows}
use Rattle.base_rows.proofs.sortable.rows.SortedRows.put_all.Given as goal

abbrev pub invariant-loop-row : goal.invariant-loop-row
invariant-loop-row g l =
    (l.self.rows ≡ set_rows g.R.Sortable.sort_key l.yielded l.initial.self.rows)
    × (l.initial.self.room ≤ l.self.room + length l.yielded)
    × (l.self.room + length l.self.rows ≡ l.initial.self.room + length l.initial.self.rows)
