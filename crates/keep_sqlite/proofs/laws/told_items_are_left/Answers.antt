use Rattle.std.proofs.Common.{rules}
use Rattle.keep_sqlite.proofs.LeftItems.{now_left, told_left}
use Rattle.keep_sqlite.proofs.laws.told_items_are_left.Goals as goal

pub returns-clause-now : goal.returns-clause-now
returns-clause-now g c none =
    now_left g.S.Store c.args.keeper.now (λ trees is_open may. g.met.S.Store.settled c.args.keeper.now.connection.store trees is_open may) (search rules) (search rules)

pub returns-clause-told : goal.returns-clause-told
returns-clause-told g c none =
    told_left g.S.Store c.args.keeper.now
    (now_left g.S.Store c.args.keeper.now (λ trees is_open may. g.met.S.Store.settled c.args.keeper.now.connection.store trees is_open may) (search rules) (search rules))
