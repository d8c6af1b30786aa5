use Rattle.std.proofs.Common.{◌≤◌, sym, subst}
use Rattle.mud_desk.specs.DeskState.{DeskState}
use Rattle.mud_desk.proofs.Sessions.{timely_later}
use Rattle.mud_desk.proofs.state.State.commit.Goals as goal

pub invariant_of-self : goal.invariant_of-self
invariant_of-self g c =
    timely_later c.self.inside.flows c.self.inside.moment c.args.now c.self.invariant
    (subst (λ (s : DeskState). s.moment ≤ c.args.now) (sym c.self.view_is) c.requires.later)
