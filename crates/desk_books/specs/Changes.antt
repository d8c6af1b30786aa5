-- A planned change of the desk, and what it makes of the desk.
use Rattle.std.specs.Prelude.{ℕ, List, [], ◌∷◌, Option, Some, None}
use Rattle.base_rows.specs.Changes.{changed}
use Rattle.mud_world.specs.declared.item.Put.{Put}
use Rattle.table_model.specs.Things.{mac_of}
use Rattle.table_model.specs.Tables.{binds_of}
use Rattle.usage_tables.specs.FileEdits.{edited}
use Rattle.bind_book.specs.Plans.{changed_binds}
use Rattle.acl_compile.specs.Plans.{Plan}
use Rattle.desk_model.specs.declared.reply.Outcome.{Outcome}
use Rattle.desk_model.specs.DeskTables.{DeskTables, with_things, with_files, with_desk_binds}
use Rattle.desk_model.specs.Commands.{outcome}
use Rattle.desk_model.specs.Items.{with_stamp_put}
use Rattle.desk_books.specs.declared.change.BookChange.{BookChange}
use Rattle.desk_books.specs.declared.change.BookChange.TheVariants.{Things, Files, Binds}

-- what the command answers, the change of its book, that of the compiled rows, the batch by which both are kept, and the
-- stamp afterwards
pub record PlannedChange : Type 0 where
  pub outcome : Outcome
  pub change : BookChange
  pub rows : Plan
  pub batch : List Put
  pub stamp : Option ℕ

-- the desk with the lists of one book changed
unfoldable pub with_change : BookChange → DeskTables → DeskTables
with_change (Things change) desk = with_things (changed mac_of change.rows desk.tables.things) desk
with_change (Files change) desk = with_files (edited change.edit change.url desk.files) desk
with_change (Binds change) desk = with_desk_binds (changed_binds change.rows (binds_of desk.tables)) desk

unfoldable pub with_stamp : Option ℕ → DeskTables → DeskTables
with_stamp stamp desk = record desk { stamp = stamp }

-- the desk that the change makes of a desk
unfoldable pub desk_after : PlannedChange → DeskTables → DeskTables
desk_after change desk = with_stamp change.stamp (with_change change.change desk)

-- ---- The batch

-- the stamp's put behind the puts of a change; nothing is kept where there are none
unfoldable pub batch_of : ℕ → List Put → List Put
batch_of now [] = []
batch_of now (put ∷ puts) = with_stamp_put now (put ∷ puts)

-- a change with puts is stamped with its moment, and else the stamp stays
unfoldable pub stamp_after : ℕ → Option ℕ → List Put → Option ℕ
stamp_after now stamp [] = stamp
stamp_after now stamp (put ∷ puts) = Some now

-- ---- How a change is made of that of a book and its rows

-- of a command on files there is a URL, and of the others the expiry that is kept for an address
unfoldable pub outcome_of : BookChange → Outcome
outcome_of (Things change) = outcome change.word change.until None
outcome_of (Files change) = outcome change.word None (Some change.url)
outcome_of (Binds change) = outcome change.word change.until None

unfoldable pub puts_in : BookChange → List Put
puts_in (Things change) = change.puts
puts_in (Files change) = change.puts
puts_in (Binds change) = change.puts

-- the puts were moved out
unfoldable pub without_puts : BookChange → BookChange
without_puts (Things change) = Things (record change { puts = [] })
without_puts (Files change) = Files (record change { puts = [] })
without_puts (Binds change) = Binds (record change { puts = [] })

unfoldable pub change_of : ℕ → Option ℕ → BookChange → Plan → PlannedChange
change_of now stamp change rows = record {
  outcome = outcome_of change;
  change = without_puts change;
  rows = rows;
  batch = batch_of now (puts_in change);
  stamp = stamp_after now stamp (puts_in change);
}
