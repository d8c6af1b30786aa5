use Rattle.std.proofs.Common.{◌≡◌, take}
use Rattle.usage_tables.specs.Due.{due_urls}
use Rattle.console.proofs.due.due_urls.Given as goal

-- so far the URLs of the rows that were passed are there
abbrev pub invariant-rows : goal.invariant-rows
invariant-rows l = l.urls ≡ due_urls l.now (take l.row-index l.files)
