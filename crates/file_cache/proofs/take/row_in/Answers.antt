use Rattle.std.proofs.Common.{◌≡◌, Option, Some, subst}
use Rattle.std.specs.Prelude.{IfOk}
use Rattle.usage_tables.specs.declared.cached_file.CachedFile.{CachedFile}
use Rattle.usage_tables.specs.FileItems.{file_row}
use Rattle.file_cache.proofs.TakeLaws.{other_kind, formless, read_row}
use Rattle.file_cache.proofs.take.row_in.Goals as goal

pub returns-then-item-ne-FILE_KIND : goal.returns-then-item-ne-FILE_KIND
returns-then-item-ne-FILE_KIND c = other_kind c.args.item.now c.if-item-ne-FILE_KIND.true

pub returns-in-Some : goal.returns-in-Some
returns-in-Some c =
    let some = rw c.octets.ensures at (c.in-Some.ensures c.args.item.now.key) in
    let is = read_row c.args.item.now (file_row c.args.item.now.key c.in-Some.approved c.in-Some.candidate) c.if-item-ne-FILE_KIND.false some in
    subst (λ (t : Option CachedFile). IfOk c.row_of.result (λ row. row ≡ t)) is (rw c.octets-in-Some.ensures at c.row_of.ensures)

pub returns-in-None : goal.returns-in-None
returns-in-None c = formless c.args.item.now c.if-item-ne-FILE_KIND.false (rw c.octets.ensures at (c.in-None.ensures c.args.item.now.key))
