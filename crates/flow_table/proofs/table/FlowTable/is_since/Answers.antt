use Rattle.std.proofs.Common.{sym, ap, ◌∙◌}
use Rattle.flow_table.specs.Noted.{is_since}
use Rattle.flow_table.specs.Held.{held_of}
use Rattle.flow_table.proofs.HeldLaws.{since_by_last}
use Rattle.flow_table.proofs.table.FlowTable.is_since.Goals as goal

pub returns-in-Some : goal.returns-in-Some
unfolding is_since
returns-in-Some c =
    let held = held_of c.self.inside.last c.self.inside.since c.self.inside.newest c.self.inside.younger c.self.inside.elder in
    rw (c.seconds-in-Some.ensures.value, c.seconds.ensures.value, ← c.self.view_is) (ap (λ last. is_since last c.args.now) (sym c.in-Some.is) ∙ since_by_last c.self.inside.history.items held c.args.now c.self.invariant)

pub returns-in-None : goal.returns-in-None
unfolding is_since
returns-in-None c =
    let held = held_of c.self.inside.last c.self.inside.since c.self.inside.newest c.self.inside.younger c.self.inside.elder in
    rw (← c.self.view_is) (ap (λ last. is_since last c.args.now) (sym c.in-None.is) ∙ since_by_last c.self.inside.history.items held c.args.now c.self.invariant)
