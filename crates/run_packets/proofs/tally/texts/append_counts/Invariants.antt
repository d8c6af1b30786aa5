use Rattle.std.proofs.Common.{◌≡◌, ◌++◌, take}
use Rattle.std.specs.Prelude.{flat_map}
use Rattle.run_packets.specs.Tally.Texts.{count_line}
use Rattle.run_packets.proofs.tally.texts.append_counts.Given as goal

abbrev pub invariant-rows : goal.invariant-rows
invariant-rows l = l.lines ≡ l.initial.lines ++ flat_map count_line (take l.row-index l.rows)
