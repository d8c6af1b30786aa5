use Rattle.std.proofs.Common.{Some, ap, ◌∙◌}
use Rattle.flow_table.proofs.SlotLaws.{none_in_short, by_short}
use Rattle.flow_table.proofs.slots.short_slot.Goals as goal

pub returns-in_default : goal.returns-in_default
returns-in_default c = none_in_short _ _ c.in_default.ensures

pub returns-in-Some-get : goal.returns-in-Some-get
returns-in-Some-get c = ap (λ b. Some b) c.begun.ensures ∙ c.in-Some-get.ensures.value ∙ by_short _ _ _ c.in-Some.ensures

pub returns-in-None : goal.returns-in-None
returns-in-None c = c.in-None.ensures.value ∙ by_short _ _ _ c.in-Some.ensures
