use Rattle.std.proofs.Common.{◌≡◌, ◌+◌, drop}
use Rattle.usage_tables.specs.Files.{entry_count}
use Rattle.usage_tables.proofs.entries.entry_count.Given as goal

abbrev pub invariant-loop-row : goal.invariant-loop-row
invariant-loop-row l = l.count + entry_count (drop l.row-index l.files) ≡ entry_count l.files
