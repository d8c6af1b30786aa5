use Rattle.std.proofs.Common.{◌≡◌, ◌++◌, take}
use Rattle.std.specs.Prelude.{flat_map}
use Rattle.run_packets.specs.Tally.Texts.{total_text}
use Rattle.run_packets.proofs.tally.texts.append_named.Given as goal

abbrev pub invariant-rows : goal.invariant-rows
invariant-rows l = l.line ≡ l.initial.line ++ flat_map (λ row. total_text row.0.now row.1) (take l.row-index l.rows)
