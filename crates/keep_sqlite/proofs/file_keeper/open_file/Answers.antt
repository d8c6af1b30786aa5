use Rattle.sqlite.specs.WalFiles.{image_at}
use Rattle.keep_sqlite.proofs.FileKeepers.{if_ok_map, opened_file, rest_file}
use Rattle.keep_sqlite.proofs.file_keeper.open_file.Goals as goal

pub over-requires : goal.over-requires
over-requires g c = if_ok_map c.connect-opened.result c.connect-opened.ensures.opened (rest_file (image_at g.S.Start))

pub returns-clause-opened : goal.returns-clause-opened
returns-clause-opened g c =
    let opened = c.connect-opened.ensures in
    let keeper = c.over.ensures in
    opened_file _ c.connect-opened.result c.over.result.keeper keeper.adopted keeper.unread opened.opened keeper.rests opened.unopened
