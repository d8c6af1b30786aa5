use Rattle.std.proofs.Common.{◌≡◌, ◌⊎◌, List, Ok, IfErr, ap, sym, subst, ◌∙◌}
use Rattle.mud_world.specs.declared.item.Item.{Item}
use Rattle.sqlite.specs.WalFiles.{image_at}
use Rattle.keep_sqlite.specs.FileKeepers.{opened_items, OpenedMayLeave, OpenedTells, OpenedUnread}
use Rattle.keep_sqlite.proofs.FileKeepers.{if_err_later}
use Rattle.keep_sqlite.proofs.LeftItems.{on_ok_given, read_left, rests_left}
use Rattle.keep_sqlite.proofs.Standings.{stands_read}
use Rattle.keep_sqlite.proofs.file_keeper.read_opened.Goals as goal

pub invariant_of-opened : goal.invariant_of-opened
invariant_of-opened g c =
    let e = c.read.ensures in
    stands_read g.T.Store (image_at g.S.Start) c.opened.inside.keeper c.read.new.self e.crash e.told e.same c.opened.invariant

pub returns-in-Ok-clause-crash : goal.returns-in-Ok-clause-crash
returns-in-Ok-clause-crash g c =
    subst (λ k. OpenedTells g.T.Store k → (list : List Item) → OpenedMayLeave g.T.Store (Ok c.read.new.self) list
    → OpenedMayLeave g.T.Store k list ⊎ (list ≡ opened_items g.T.Store k)) (ap Ok c.opened.view_is ∙ sym c.in-Ok.is)
    (λ tells. read_left g.T.Store c.opened.inside.keeper c.read.new.self c.read.ensures.crash)

pub returns-in-Ok-clause-rests : goal.returns-in-Ok-clause-rests
returns-in-Ok-clause-rests g c =
    on_ok_given c.read.result c.read.ensures.tells c.read.ensures.after (rests_left g.T.Store c.opened.inside.keeper c.read.new.self)

pub returns-in-Ok-clause-refused : goal.returns-in-Ok-clause-refused
returns-in-Ok-clause-refused g c =
    subst (λ k. IfErr c.read.result (OpenedUnread g.T.Store k (Ok c.read.new.self))) (ap Ok c.opened.view_is ∙ sym c.in-Ok.is)
    (if_err_later _ c.read.result c.read.ensures.refused)
