use Rattle.desk_model.specs.Kept.{IsKept}
use Rattle.mud_desk.specs.DeskState.{tables_of}
use Rattle.test_stores.proofs.desks.give_all.Given as goal

abbrev pub invariant-deeds : goal.invariant-deeds
invariant-deeds g l = IsKept g.K.Keeper l.desk.keeper (tables_of l.desk.state)
