use Rattle.std.proofs.Common.{refl}
use Rattle.mud_desk.proofs.Stays.{stays_raised}
use Rattle.mud_desk.proofs.desk.Desk.raise.Goals as goal

pub returns-clause-stays : goal.returns-clause-stays
returns-clause-stays g c = stays_raised g.K.Keeper _ refl c.raise.ensures c.requires.kept
