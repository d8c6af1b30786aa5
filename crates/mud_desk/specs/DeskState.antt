-- What a desk holds beside its keeper, and the session that it is in.
use Rattle.std.specs.Prelude.{ℕ, IsTrue, Option, Some, None}
use Rattle.mud_base.specs.declared.packet.Direction.{Direction}
use Rattle.acl_rows.specs.View.{View, IsViewOf}
use Rattle.table_model.specs.declared.thing.Thing.{Thing}
use Rattle.flow_table.specs.Noted.{Noted, follows}
use Rattle.desk_model.specs.DeskTables.{DeskTables}
use Rattle.desk_model.specs.Sessions.{Session}
use Rattle.desk_books.specs.Books.{Books, desk_of}

-- the books and what is compiled of them, the packets that were forwarded, and the moment
pub record DeskState : Type 0 where
  pub books : Books
  pub flows : Noted
  pub moment : ℕ

-- the tables of the desk
unfoldable pub tables_of : DeskState → DeskTables
tables_of state = desk_of state.books

-- the session of the desk
unfoldable pub session_of : DeskState → Session
session_of state = record { desk = tables_of state; history = state.flows.history; moment = state.moment }

-- no packet was noted behind the moment
unfoldable pub IsTimely : Noted → ℕ → Type 0
IsTimely flows moment = IsTrue (follows flows.history moment)

-- a view is lent exactly where there is a Thing, and it is that of the Thing's URL over what is compiled
abbrev pub AreRulesOf : DeskState → Direction → Option Thing → Option View → Type 0
AreRulesOf state side None None = Unit {0}
AreRulesOf state side None (Some view) = ⊥
AreRulesOf state side (Some thing) None = ⊥
AreRulesOf state side (Some thing) (Some view) = IsViewOf state.books.compiled.slots state.books.compiled.rows thing.url side view
