use Rattle.keep_sqlite.proofs.LeftItems.{put_left, rests_left}
use Rattle.keep_sqlite.proofs.sqlite_keeper.SqliteKeeperKeeper.apply.Goals as goal

pub returns-in-Ok-clause-crash : goal.returns-in-Ok-clause-crash
returns-in-Ok-clause-crash g c = put_left g.S.Store c.args.self.now c.keep.new.self c.args.batch.now c.requires.opened c.keep.ensures.crash

pub returns-in-Err-clause-crash : goal.returns-in-Err-clause-crash
returns-in-Err-clause-crash g c = put_left g.S.Store c.args.self.now c.keep.new.self c.args.batch.now c.requires.opened c.keep.ensures.crash

pub returns-in-Ok-clause-rests : goal.returns-in-Ok-clause-rests
returns-in-Ok-clause-rests g c = rests_left g.S.Store c.args.self.now c.keep.new.self c.in-Ok.ensures.tells c.in-Ok.ensures.after
