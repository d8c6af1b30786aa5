use Rattle.flow_table.proofs.SlotLaws.{put_wide}
use Rattle.flow_table.proofs.slots.put_short.Goals as goal

pub returns-clause-ok : goal.returns-clause-ok
returns-clause-ok c = rw (← c.new.ensures) (put_wide c.args.key c.new.result c.args.slots.now.entries c.insert.new.self.entries c.in_ok-insert.ensures.updates.0)
