-- What is kept of a desk in memory: its lists, each with its room, what is compiled of them, and the stamp.
use Rattle.std.specs.Prelude.{ℕ, Option}
use Rattle.thing_book.specs.Planned.{Things}
use Rattle.file_cache.specs.Changes.{Files}
use Rattle.bind_book.specs.Book.{Book}
use Rattle.acl_compile.specs.Compiled.{CompiledState}
use Rattle.desk_model.specs.DeskTables.{DeskTables, IsSound}
use Rattle.desk_books.specs.CompiledDesk.{IsCompiledOf}
use Rattle.desk_books.specs.declared.lists.Lists.{Lists}

-- the three books, the policies, bindings and rows that follow from them, and the moment of the last change
pub record Books : Type 0 where
  pub things : Things
  pub files : Files
  pub binds : Book
  pub compiled : CompiledState
  pub stamp : Option ℕ

-- the desk whose lists the three books have
abbrev pub desk_in : Things → Files → Book → Option ℕ → DeskTables
desk_in things files binds stamp = record {
  tables = record { things = things.things; classes = binds.binds.classes; locals = binds.binds.locals; names = binds.binds.names };
  files = files.files;
  stamp = stamp;
}

abbrev pub desk_of : Books → DeskTables
desk_of books = desk_in books.things books.files books.binds books.stamp

-- the lists are sound, and what is compiled is the desk's
pub record AreKept (books : Books) : Type 0 where
  pub sound : IsSound (desk_of books)
  pub compiled : IsCompiledOf (desk_of books) books.compiled

-- ---- The three books as one value

abbrev pub desk_with : Lists → Option ℕ → DeskTables
desk_with lists stamp = desk_in lists.things lists.files lists.binds stamp

abbrev pub books_with : Lists → CompiledState → Option ℕ → Books
books_with lists compiled stamp = record { things = lists.things; files = lists.files; binds = lists.binds; compiled = compiled; stamp = stamp }
