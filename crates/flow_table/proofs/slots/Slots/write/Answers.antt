use Rattle.std.proofs.Common.{◌++◌, sym, ap, subst}
use Rattle.flow_table.specs.Held.{IsWritten}
use Rattle.flow_table.specs.Slots.{slots_of, wide_slots}
use Rattle.flow_table.proofs.SlotLaws.{Slots, some_above, some_below, none_below, written_above, written_below}
use Rattle.flow_table.proofs.slots.Slots.write.Goals as goal

pub returns-then-write_short-clause-there : goal.returns-then-write_short-clause-there
unfolding slots_of
returns-then-write_short-clause-there c = λ _. rw (← c.self.view_is) (some_above _ _ _ (c.write_short.ensures.there c.if-write_short.true))

pub returns-then-write_short-clause-written : goal.returns-then-write_short-clause-written
unfolding slots_of
returns-then-write_short-clause-written c = λ _. rw (← c.self.view_is) (written_above _ _ _ _ _ (c.write_short.ensures.there c.if-write_short.true) (c.write_short.ensures.written c.if-write_short.true))

pub returns-clause-there : goal.returns-clause-there
unfolding slots_of
returns-clause-there c = λ is. rw (← c.self.view_is) (some_below _ _ _ (c.write_short.ensures.absent c.if-write_short.false) (c.write_long.ensures.there is))

pub returns-clause-written : goal.returns-clause-written
unfolding slots_of
returns-clause-written c = λ is. rw (← c.self.view_is)
    (let P : Slots → Type 0 = λ above. IsWritten c.args.key.now c.args.packet.now (slots_of c.self.inside.short.entries c.self.inside.long.entries) (above ++ c.write_long.new.slots.entries) in
    subst P (sym (ap wide_slots (c.write_short.ensures.same c.if-write_short.false))) (written_below _ _ _ _ _ (c.write_short.ensures.absent c.if-write_short.false) (c.write_long.ensures.written is)))

pub returns-clause-absent : goal.returns-clause-absent
unfolding slots_of
returns-clause-absent c = λ is. rw (← c.self.view_is) (none_below _ _ _ (c.write_short.ensures.absent c.if-write_short.false) (c.write_long.ensures.absent is))
