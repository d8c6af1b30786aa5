use Rattle.flow_table.specs.Slots.{slots_of}
use Rattle.flow_table.proofs.SlotLaws.{put_above_ok, put_below_ok}
use Rattle.flow_table.proofs.slots.Slots.put.Goals as goal

pub returns-in-Some-clause-ok : goal.returns-in-Some-clause-ok
unfolding slots_of
returns-in-Some-clause-ok c = rw (← c.self.view_is) (put_above_ok _ _ _ _ _ _ _ c.in-Some.ensures c.put_short.ensures.ok)

pub returns-in-None-clause-ok : goal.returns-in-None-clause-ok
unfolding slots_of
returns-in-None-clause-ok c = rw (← c.self.view_is) (put_below_ok _ _ _ _ _ _ c.in-None.ensures c.put_long.ensures.ok)
