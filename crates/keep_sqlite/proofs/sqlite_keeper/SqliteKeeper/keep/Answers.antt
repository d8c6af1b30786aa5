use Rattle.std.proofs.Common.{◌≡◌, ◌⊎◌, false, inl, ap, subst, sym, ◌∙◌}
use Rattle.std.proofs.lemmas.Result.{on_ok_weaker}
use Rattle.mud_world.specs.Items.{put_all}
use Rattle.keep_sqlite.specs.Rows.{items_of, HoldsItems}
use Rattle.keep_sqlite.specs.Telling.{database, told, MayLeave, Tells}
use Rattle.keep_sqlite.proofs.Tellings.{put_told}
use Rattle.keep_sqlite.proofs.sqlite_keeper.SqliteKeeper.keep.Goals as goal

pub returns-clause-told : goal.returns-clause-told
returns-clause-told g c tells =
    let e = c.put_in-answer.ensures in
    let up = (subst (Tells g.S.Store) c.self.view_is tells).0 in
    (e.opens up, inl (e.held up))

pub returns-clause-ok : goal.returns-clause-ok
returns-clause-ok g c tells =
    let e = c.put_in-answer.ensures in
    let up = (subst (Tells g.S.Store) c.self.view_is tells).0 in
    let opened = ap (λ k. k.has_opened) c.self.view_is ∙ e.opened ∙ c.requires.opened in
    let holds = subst (λ k. HoldsItems (database g.S.Store k)) c.self.view_is (c.self.invariant opened tells.0) in
    on_ok_weaker c.put_in-answer.result (λ put. ap (told g.S.Store) c.self.view_is ∙ put_told _ _ c.args.batch.now (e.held up) holds put) (e.ok up)

pub returns-clause-opened : goal.returns-clause-opened
returns-clause-opened g c = ap (λ k. k.has_opened) c.self.view_is ∙ c.put_in-answer.ensures.opened

pub returns-clause-crash : goal.returns-clause-crash
returns-clause-crash g c =
    subst (λ k. MayLeave g.S.Store c.args.self.now k (put_all (items_of (database g.S.Store c.args.self.now)) c.args.batch.now)) (sym c.self.view_is) c.put_in-answer.ensures.crash

pub returns-clause-ended : goal.returns-clause-ended
returns-clause-ended g c =
    subst (λ k. (k.connection ≡ c.args.self.now.connection) ⊎ (k.connection.in_transaction ≡ false)) (sym c.self.view_is) c.put_in-answer.ensures.ended
