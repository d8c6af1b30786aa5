use Rattle.std.proofs.Common.{◌≡◌, ◌+◌, ◌++◌, drop}
use Rattle.mud_cli.specs.Check.Lines.{entry_lines}
use Rattle.mud_cli.proofs.check.lines.append_entries.Given as goal

abbrev pub invariant-entries : goal.invariant-entries
invariant-entries l = l.lines ++ entry_lines l.side (l.index + 1) (drop l.index l.entries) ≡ l.fn.lines ++ entry_lines l.side 1 l.entries
