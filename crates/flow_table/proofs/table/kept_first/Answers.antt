use Rattle.std.proofs.Common.{ap, ◌∙◌}
use Rattle.flow_table.specs.Held.{slot_at, slot_first}
use Rattle.flow_table.proofs.table.kept_first.Goals as goal

pub returns-in-Some : goal.returns-in-Some
unfolding slot_at slot_first
returns-in-Some c = ap (λ y. slot_first y (slot_at c.args.elder.now c.args.key.now)) c.in-Some.ensures

pub returns-in-None : goal.returns-in-None
unfolding slot_at slot_first
returns-in-None c = c.kept_in.ensures ∙ ap (λ y. slot_first y (slot_at c.args.elder.now c.args.key.now)) c.in-None.ensures
