use Rattle.std.proofs.Common.{◌≡◌, true, OnOk, OnErr, subst, sym, ap, ◌∙◌}
use Rattle.keep_sqlite.specs.Rows.{MayMake}
use Rattle.keep_sqlite.specs.Telling.{database, told, IsUp, MayLeaveMade, Tells}
use Rattle.keep_sqlite.proofs.Tellings.{held_before, same_items}
use Rattle.keep_sqlite.proofs.sqlite_keeper.SqliteKeeper.read.Goals as goal

pub returns-clause-told : goal.returns-clause-told
returns-clause-told g c tells =
    let e = c.list_items-answer.ensures in
    let new = c.list_items-answer.new.self in
    let seen = subst (Tells g.S.Store) c.self.view_is tells in
    (e.opens seen.0, held_before c.args.self.now.has_opened new.has_opened _ (database g.S.Store new) (e.kept seen.0) (e.held seen.0) seen.1)

pub returns-clause-same : goal.returns-clause-same
returns-clause-same g c tells =
    let e = c.list_items-answer.ensures in
    let new = c.list_items-answer.new.self in
    let was = c.args.self.now.has_opened in
    let seen = subst (Tells g.S.Store) c.self.view_is tells in
    let held = held_before was new.has_opened _ (database g.S.Store new) (e.kept seen.0) (e.held seen.0) seen.1 in
    ap (told g.S.Store) c.self.view_is ∙ same_items was (database g.S.Store c.args.self.now) (database g.S.Store new) (e.kept seen.0) held

pub returns-clause-opens : goal.returns-clause-opens
returns-clause-opens g c up = c.list_items-answer.ensures.opens (subst (λ k. IsUp g.S.Store k.connection) c.self.view_is up)

pub returns-clause-kept : goal.returns-clause-kept
returns-clause-kept g c up =
    subst (λ k. MayMake (database g.S.Store c.args.self.now) (database g.S.Store k)) (sym c.self.view_is) (c.list_items-answer.ensures.kept (subst (λ k. IsUp g.S.Store k.connection) c.self.view_is up))

pub returns-clause-crash : goal.returns-clause-crash
returns-clause-crash g c = subst (λ k. MayLeaveMade g.S.Store c.args.self.now k) (sym c.self.view_is) c.list_items-answer.ensures.crash

pub returns-clause-opened : goal.returns-clause-opened
returns-clause-opened g c = subst (λ k. OnOk c.list_items-answer.result (k.has_opened ≡ true)) (sym c.self.view_is) c.list_items-answer.ensures.opened

pub returns-clause-still : goal.returns-clause-still
returns-clause-still g c = subst (λ k. OnErr c.list_items-answer.result (k.has_opened ≡ c.args.self.now.has_opened)) (sym c.self.view_is) c.list_items-answer.ensures.still
