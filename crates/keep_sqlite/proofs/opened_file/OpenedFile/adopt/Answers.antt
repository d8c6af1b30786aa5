use Rattle.sqlite.specs.WalFiles.{image_at}
use Rattle.keep_sqlite.proofs.Standings.{stands_adopted}
use Rattle.keep_sqlite.proofs.opened_file.OpenedFile.adopt.Goals as goal

pub invariant_of-result : goal.invariant_of-result
invariant_of-result g c =
    let law = c.told_items_are_left.ensures in
    stands_adopted g.T.Store (image_at g.S.Start) c.args.connection c.adopt-keeper.result c.adopt-keeper.ensures.connection c.requires law.told law.now

pub returns-clause-told : goal.returns-clause-told
returns-clause-told g c =
    let law = c.told_items_are_left.ensures in
    (stands_adopted g.T.Store (image_at g.S.Start) c.args.connection c.adopt-keeper.result c.adopt-keeper.ensures.connection c.requires law.told law.now).told
