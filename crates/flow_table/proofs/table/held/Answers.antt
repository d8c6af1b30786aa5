use Rattle.std.proofs.Common.{None, ◌∙◌}
use Rattle.flow_table.specs.Held.{held_at}
use Rattle.flow_table.proofs.HeldLaws.{held_apart, held_below}
use Rattle.flow_table.proofs.table.held.Goals as goal

pub returns-in-Some : goal.returns-in-Some
unfolding held_at
returns-in-Some c = held_apart None 0 _ _ _ _ _ c.in-Some.ensures

pub returns-in-None : goal.returns-in-None
unfolding held_at
returns-in-None c = c.kept_first.ensures ∙ held_below None 0 _ _ _ _ c.in-None.ensures
