use Rattle.std.proofs.Common.{◌≡◌, ◌++◌, take}
use Rattle.std.specs.Prelude.{flat_map}
use Rattle.run_packets.specs.Tally.Texts.{others_line}
use Rattle.run_packets.proofs.tally.texts.append_others.Given as goal

abbrev pub invariant-rows : goal.invariant-rows
invariant-rows l = l.lines ≡ l.initial.lines ++ flat_map others_line (take l.row-index l.rows)
