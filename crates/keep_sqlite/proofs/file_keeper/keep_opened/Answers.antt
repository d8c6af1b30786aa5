use Rattle.std.proofs.Common.{◌≡◌, ◌⊎◌, List, Ok, IfErr, IsTrue, ap, sym, subst, ◌∙◌}
use Rattle.mud_world.specs.Items.{put_all}
use Rattle.mud_world.specs.declared.item.Item.{Item}
use Rattle.sqlite.specs.WalFiles.{image_at}
use Rattle.keep_sqlite.specs.FileKeepers.{is_read, opened_items, OpenedMayLeave, OpenedRefuses, OpenedTells}
use Rattle.keep_sqlite.specs.Rows.{items_of}
use Rattle.keep_sqlite.specs.Telling.{database}
use Rattle.keep_sqlite.proofs.FileKeepers.{if_err_later}
use Rattle.keep_sqlite.proofs.LeftItems.{on_ok_given, put_left, rests_left}
use Rattle.keep_sqlite.proofs.Standings.{stands_put}
use Rattle.keep_sqlite.proofs.file_keeper.keep_opened.Goals as goal

pub invariant_of-opened : goal.invariant_of-opened
invariant_of-opened g c =
    let e = c.keep-answer.ensures in
    let old = c.opened.inside.keeper in
    stands_put g.T.Store (image_at g.S.Start) old c.keep-answer.new.self (put_all (items_of (database g.T.Store old)) c.args.batch.now) e.crash e.ended e.opened
    c.told_items_are_left.ensures.told c.opened.invariant

pub returns-in-Ok-clause-crash : goal.returns-in-Ok-clause-crash
returns-in-Ok-clause-crash g c =
    let same = ap Ok c.opened.view_is ∙ sym c.in-Ok.is in
    let opened : IsTrue c.opened.inside.keeper.has_opened = subst (λ k. IsTrue (is_read k)) (sym same) c.requires.opened in
    subst (λ k. (list : List Item) → OpenedMayLeave g.T.Store (Ok c.keep-answer.new.self) list → OpenedMayLeave g.T.Store k list
    ⊎ (OpenedTells g.T.Store k × (list ≡ put_all (opened_items g.T.Store k) c.args.batch.now))) same
    (put_left g.T.Store c.opened.inside.keeper c.keep-answer.new.self c.args.batch.now opened c.keep-answer.ensures.crash)

pub returns-in-Ok-clause-rests : goal.returns-in-Ok-clause-rests
returns-in-Ok-clause-rests g c =
    on_ok_given c.keep-answer.result c.keep-answer.ensures.tells c.keep-answer.ensures.after (rests_left g.T.Store c.opened.inside.keeper c.keep-answer.new.self)

pub returns-in-Ok-clause-refused : goal.returns-in-Ok-clause-refused
returns-in-Ok-clause-refused g c =
    subst (λ k. IfErr c.keep-answer.result (OpenedRefuses g.T.Store k (Ok c.keep-answer.new.self) c.args.batch.now)) (ap Ok c.opened.view_is ∙ sym c.in-Ok.is)
    (if_err_later _ c.keep-answer.result c.keep-answer.ensures.refused)
