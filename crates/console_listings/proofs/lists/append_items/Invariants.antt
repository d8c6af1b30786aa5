use Rattle.std.proofs.Common.{◌≡◌, ◌++◌, take}
use Rattle.text_values.specs.Lists.{with_commas}
use Rattle.console_listings.proofs.lists.append_items.Given as goal

abbrev pub invariant-rows : goal.invariant-rows
invariant-rows g l = l.body ≡ l.initial.body ++ with_commas g.T.JsonRow.text (take l.index l.rows)
