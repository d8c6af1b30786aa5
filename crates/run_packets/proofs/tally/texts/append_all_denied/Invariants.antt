use Rattle.std.proofs.Common.{◌≡◌, ◌++◌, take}
use Rattle.std.specs.Prelude.{flat_map}
use Rattle.run_packets.specs.Tally.Texts.{denied_line}
use Rattle.run_packets.proofs.tally.texts.append_all_denied.Given as goal

abbrev pub invariant-rows : goal.invariant-rows
invariant-rows l = l.lines ≡ l.initial.lines ++ flat_map denied_line (take l.row-index l.rows)
