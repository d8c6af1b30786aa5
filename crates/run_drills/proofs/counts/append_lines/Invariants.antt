use Rattle.std.proofs.Common.{◌≡◌, ◌++◌, take}
use Rattle.std.specs.Prelude.{codes, flat_map}
use Rattle.text_values.specs.Numbers.{number_text}
use Rattle.run_drills.proofs.counts.append_lines.Given as goal

abbrev pub invariant-rows : goal.invariant-rows
invariant-rows l = l.lines ≡ l.initial.lines ++ flat_map (λ row. row.0.now ++ number_text row.1 ++ codes "\n") (take l.row-index l.rows)
