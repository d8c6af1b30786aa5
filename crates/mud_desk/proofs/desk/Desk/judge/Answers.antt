use Rattle.std.proofs.Common.{refl}
use Rattle.mud_desk.proofs.Stays.{stays_judged}
use Rattle.mud_desk.proofs.desk.Desk.judge.Goals as goal

pub returns-clause-stays : goal.returns-clause-stays
returns-clause-stays g c = stays_judged g.K.Keeper refl c.judge.ensures.books c.requires.kept
