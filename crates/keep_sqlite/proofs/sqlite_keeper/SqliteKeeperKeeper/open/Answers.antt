use Rattle.keep_sqlite.proofs.LeftItems.{read_left, rests_left}
use Rattle.keep_sqlite.proofs.sqlite_keeper.SqliteKeeperKeeper.open.Goals as goal

pub returns-in-Ok-clause-crash : goal.returns-in-Ok-clause-crash
returns-in-Ok-clause-crash g c tells = read_left g.S.Store c.args.self.now c.read.new.self c.read.ensures.crash

pub returns-in-Err-clause-crash : goal.returns-in-Err-clause-crash
returns-in-Err-clause-crash g c tells = read_left g.S.Store c.args.self.now c.read.new.self c.read.ensures.crash

pub returns-in-Ok-clause-rests : goal.returns-in-Ok-clause-rests
returns-in-Ok-clause-rests g c = rests_left g.S.Store c.args.self.now c.read.new.self c.in-Ok.ensures.tells c.in-Ok.ensures.after
