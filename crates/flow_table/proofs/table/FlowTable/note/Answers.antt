use Rattle.std.proofs.Common.{◌≡◌, ◌<◌, ◌≤◌, ◌+◌, ◌-◌, IsTrue, sym, ap, ◌∙◌, subst, arith}
use Rattle.flow_table.specs.Noted.{Noted, follows, segment_planned, IsPlanned}
use Rattle.flow_table.specs.declared.table.FlowPlan.{FlowPlan}
use Rattle.flow_table.specs.Kept.{kept_after}
use Rattle.flow_table.specs.Held.{Held, held_of}
use Rattle.flow_table.proofs.HeldLaws.{noted_holds, last_since, kept_on_noted, kept_on_sound, kept_on_recent, elder_stays, late_noted, late_sound, late_recent, late_elder, writes_slot, writes_apart}
use Rattle.flow_table.proofs.table.FlowTable.note.Goals as goal

-- what was asked of the table, of its parts
since_inside : (inside now : Noted) (plan : FlowPlan) → inside ≡ now → IsPlanned now plan → IsTrue (follows inside.history plan.packet.at)
unfolding segment_planned
since_inside inside now plan same planned = subst (λ (n : Noted). IsTrue (follows n.history plan.packet.at)) (sym same) planned.since

room_inside : (inside now : Noted) (plan : FlowPlan) → inside ≡ now → IsPlanned now plan → IsTrue inside.has_room
room_inside inside now plan same planned = subst (λ (n : Noted). IsTrue n.has_room) (sym same) planned.room

pub invariant_of-self : goal.invariant_of-self
unfolding segment_planned
invariant_of-self c =
    let last = c.self.inside.last in
    let since = c.self.inside.since in
    let newest = c.self.inside.newest in
    let younger = c.self.inside.younger in
    let elder = c.self.inside.elder in
    let before : Held = held_of last since newest younger elder in
    let history = c.self.inside.history.items in
    let packet = c.args.plan.packet in
    let room = room_inside _ _ _ c.self.view_is c.requires in
    let after = since_inside _ _ _ c.self.view_is c.requires in
    let late : 7440 < packet.at - since = omega arith in
    let kept = c.kept_after-begun.ensures ∙ ap (kept_after packet) c.kept_first-kept.ensures in
    rw (c.seconds-now.ensures.value, c.replace.ensures.value, c.replace.ensures.after)
    (noted_holds history _ packet before _ c.self.invariant after
    (late_sound last since newest younger elder _ c.key_of-key.result packet _ c.self.invariant.sound (last_since history before packet.at c.self.invariant after) room c.new.ensures kept)
    (late_noted last since newest younger elder _ c.key_of-key.result packet _ c.self.invariant.sound late room c.new.ensures c.key_of-key.ensures kept)
    (late_recent history last since newest younger elder _ c.key_of-key.result packet _ room c.new.ensures c.key_of-key.ensures kept)
    (late_elder history since newest younger packet room c.self.invariant.recent)
    c.and-self-inside.ensures)

pub invariant_of-self-else-not-write : goal.invariant_of-self-else-not-write
unfolding segment_planned
invariant_of-self-else-not-write c =
    let last = c.self.inside.last in
    let since = c.self.inside.since in
    let newest = c.self.inside.newest in
    let younger = c.self.inside.younger in
    let elder = c.self.inside.elder in
    let before : Held = held_of last since newest younger elder in
    let history = c.self.inside.history.items in
    let packet = c.args.plan.packet in
    let room = room_inside _ _ _ c.self.view_is c.requires in
    let after = since_inside _ _ _ c.self.view_is c.requires in
    let near : packet.at ≤ since + 7440 = omega arith in
    let writes = writes_slot last since newest younger _ elder c.key_of-key.result packet room (c.write.ensures.there c.if-not-write.false) (c.write.ensures.written c.if-not-write.false) in
    noted_holds history _ packet before _ c.self.invariant after
    (kept_on_sound before _ _ c.key_of-key.result packet c.self.invariant.sound (last_since history before packet.at c.self.invariant after) near writes)
    (kept_on_noted before _ _ c.key_of-key.result packet c.key_of-key.ensures writes)
    (kept_on_recent history before _ c.key_of-key.result packet c.self.invariant.sound (last_since history before packet.at c.self.invariant after) near c.key_of-key.ensures writes c.self.invariant.recent)
    (elder_stays history packet elder c.self.invariant.elder)
    c.and-self-inside.ensures

pub invariant_of-self-then-not-write : goal.invariant_of-self-then-not-write
unfolding segment_planned
invariant_of-self-then-not-write c =
    let last = c.self.inside.last in
    let since = c.self.inside.since in
    let newest = c.self.inside.newest in
    let younger = c.self.inside.younger in
    let elder = c.self.inside.elder in
    let before : Held = held_of last since newest younger elder in
    let history = c.self.inside.history.items in
    let packet = c.args.plan.packet in
    let room = room_inside _ _ _ c.self.view_is c.requires in
    let after = since_inside _ _ _ c.self.view_is c.requires in
    let near : packet.at ≤ since + 7440 = omega arith in
    let writes = writes_apart last since newest younger _ elder c.key_of-key.result packet _ room (c.write.ensures.absent c.if-not-write.true) (c.write.ensures.same c.if-not-write.true) (c.kept_after-noted.ensures ∙ ap (kept_after packet) c.kept_in-before.ensures) in
    noted_holds history _ packet before _ c.self.invariant after
    (kept_on_sound before _ _ c.key_of-key.result packet c.self.invariant.sound (last_since history before packet.at c.self.invariant after) near writes)
    (kept_on_noted before _ _ c.key_of-key.result packet c.key_of-key.ensures writes)
    (kept_on_recent history before _ c.key_of-key.result packet c.self.invariant.sound (last_since history before packet.at c.self.invariant after) near c.key_of-key.ensures writes c.self.invariant.recent)
    (elder_stays history packet elder c.self.invariant.elder)
    c.and-self-inside.ensures

pub returns-then-saturating_sub-gt-MOST_PAUSE : goal.returns-then-saturating_sub-gt-MOST_PAUSE
unfolding segment_planned
returns-then-saturating_sub-gt-MOST_PAUSE c = rw (← c.self.view_is) c.and-self-inside.ensures

pub returns-then-not-write : goal.returns-then-not-write
unfolding segment_planned
returns-then-not-write c = rw (← c.self.view_is) c.and-self-inside.ensures

pub returns-else-not-write : goal.returns-else-not-write
unfolding segment_planned
returns-else-not-write c = rw (← c.self.view_is) c.and-self-inside.ensures
