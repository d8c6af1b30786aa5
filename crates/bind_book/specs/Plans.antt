-- The plan of a command: what it answers, the rows that it changes, the puts that it means, and the bindings that go and
-- come.
use Rattle.std.specs.Prelude.{◌≡◌, ℕ, ◌≤◌, ◌↔◌, false, List, [], ◌∷◌, length, Option, Some, None, MatchOption, Result, IfOk, IfErr, IsOkAnd}
use Rattle.std.specs.List.{AllByRecursion}
use Rattle.mud_base.specs.declared.addr.Addr.{Addr}
use Rattle.mud_base.specs.declared.prefix.Prefix.{Prefix}
use Rattle.base_rows.specs.Changes.{RowChange, changed}
use Rattle.item_codec.specs.Kinds.{class_kind, name_kind}
use Rattle.mud_world.specs.declared.item.Put.{Put}
use Rattle.mud_world.specs.declared.item.Put.TheVariants as which
use Rattle.mud_world.specs.Items.{IsDifference, puts_of}
use Rattle.item_codec.specs.declared.word.Word.{Word}
use Rattle.item_codec.specs.declared.word.Word.TheVariants as outcome
use Rattle.acl_model.specs.declared.binding.Binding.{Binding}
use Rattle.acl_model.specs.Changes.{IsBindingChange}
use Rattle.table_model.specs.declared.bind.Class.{Class}
use Rattle.table_model.specs.declared.bind.ClassRow.{ClassRow}
use Rattle.table_model.specs.declared.bind.NameRow.{NameRow}
use Rattle.table_model.specs.declared.bind_fault.BindFault.{BindFault}
use Rattle.table_model.specs.Binds.{Binds, class_key, name_of, IsSoundBinds}
use Rattle.table_model.specs.BindCommands.{BindsAfter, BindStep, bind_step, unbind_step, locals_step}
use Rattle.table_model.specs.BindRowChanges.{bind_change, unbind_change}
use Rattle.table_model.specs.BindItems.{class_item, locals_item, name_item, IsBindPut}
use Rattle.table_model.specs.TakenItems.{bind_items}
use Rattle.table_model.specs.Tables.{Tables, binds_of, with_binds}
use Rattle.table_model.specs.Bindings.{class_bindings, name_bindings, bindings_of}
use Rattle.table_model.specs.BindingChanges.{gone_of, come_of}
use Rattle.bind_book.specs.declared.change.BindRows.{BindRows}
use Rattle.bind_book.specs.declared.change.BindRows.TheVariants.{Nothing, Classes, Locals, Names}
use Rattle.bind_book.specs.Book.{Book, IsRefusal}

-- ---- A plan

pub record Plan : Type 0 where
  pub word : Word
  pub until : Option ℕ
  pub rows : BindRows
  pub puts : List Put
  pub gone : List Binding
  pub come : List Binding

-- ---- What its rows make of the lists

unfoldable pub changed_binds : BindRows → Binds → Binds
changed_binds Nothing binds = binds
changed_binds (Classes change) binds = record binds { classes = changed class_key change binds.classes }
changed_binds (Locals locals) binds = record binds { locals = locals }
changed_binds (Names change) binds = record binds { names = changed name_of change binds.names }

-- the book has room for the rows that are put in
unfoldable pub HasRoomFor : BindRows → Book → Type 0
HasRoomFor Nothing book = Unit {0}
HasRoomFor (Classes change) book = length change.sets ≤ book.class_room
HasRoomFor (Locals locals) book = Unit {0}
HasRoomFor (Names change) book = length change.sets ≤ book.name_room

-- ---- When a plan is that of a step

-- The plan answers what the step answers, and its rows make of the lists of the book those after the step, which are sound.
-- Its puts are the items in which these lists differ, at most two; there are none exactly where the step changes nothing.
-- Whatever tables have the lists of the book, the bindings that go and come are those in which the tables before and after
-- differ. There is room for what is put in.
pub record IsPlanned (after : BindsAfter) (book : Book) (change : Plan) : Type 0 where
  pub word : change.word ≡ after.word
  pub until : change.until ≡ after.until
  pub leads : changed_binds change.rows book.binds ≡ after.binds
  pub sound : IsSoundBinds after.binds
  pub puts : IsDifference (bind_items book.binds) (bind_items after.binds) change.puts
  pub empty : (change.puts ≡ []) ↔ (after.changes ≡ false)
  pub few : length change.puts ≤ 2
  pub kinds : AllByRecursion IsBindPut change.puts
  pub bindings : (tables : Tables) → binds_of tables ≡ book.binds → IsBindingChange (bindings_of tables) (bindings_of (with_binds after.binds tables)) change.gone change.come
  pub room : HasRoomFor change.rows book

-- the step isn't refused, and the plan is that of the step
abbrev pub IsPlanOf : BindStep → Book → Plan → Type 0
IsPlanOf step book change = IsOkAnd step (λ after. IsPlanned after book change)

-- What planning a command makes of the book: its lists stay; a change that is planned is the step; and a refusal is the
-- step's, or memory was wanted.
pub record Plans (step : BindStep) (before after : Book) (result : Result Plan BindFault) : Type 0 where
  pub same : after.binds ≡ before.binds
  pub ok : IfOk result (IsPlanOf step after)
  pub err : IfErr result (IsRefusal step)

-- ---- How plans are made

-- nothing changes
unfoldable pub same_plan : Option ℕ → Plan
same_plan until = record { word = outcome.Same; until = until; rows = Nothing; puts = []; gone = []; come = [] }

-- these classes are changed so
unfoldable pub class_plan : Word → RowChange ClassRow → List ClassRow → Plan
class_plan word change classes = record {
  word = word;
  until = None;
  rows = Classes change;
  puts = puts_of class_kind class_item change;
  gone = gone_of class_key class_bindings change classes;
  come = come_of class_key class_bindings change classes;
}

-- these names are changed so
unfoldable pub name_plan : Word → ℕ → RowChange NameRow → List NameRow → Plan
name_plan word until change names = record {
  word = word;
  until = Some until;
  rows = Names change;
  puts = puts_of name_kind name_item change;
  gone = gone_of name_of name_bindings change names;
  come = come_of name_of name_bindings change names;
}

-- the put of local networks: their item, or none where there are none
unfoldable pub locals_put : List Prefix → Put
locals_put [] = which.Gone 4 []
locals_put (prefix ∷ more) = which.Set (locals_item (prefix ∷ more))

-- the local networks are these
unfoldable pub locals_plan : List Prefix → Plan
locals_plan locals = record { word = outcome.Set; until = None; rows = Locals locals; puts = locals_put locals ∷ []; gone = []; come = [] }

-- ---- The local networks that a command sets

-- they are those after the step, or none where they are the kept ones
abbrev pub IsSetLocals : List Prefix → List Prefix → Option (List Prefix) → Type 0
IsSetLocals prefixes locals found =
    IsOkAnd (locals_step prefixes locals) (λ after. MatchOption found (after.word ≡ outcome.Same) (λ set. (after.word ≡ outcome.Set) × (set ≡ after.locals)))

-- ---- The rows of the commands on classes

-- to bind the address the classes are changed so: not at all where it is bound already
abbrev pub IsBindRows : Class → Addr → List ClassRow → Option (RowChange ClassRow) → Type 0
IsBindRows class a classes found =
    IsOkAnd (bind_step class a classes) (λ after. MatchOption found (after.word ≡ outcome.Same) (λ change. (after.word ≡ outcome.Bound) × (change ≡ bind_change class a classes)))

-- and to unbind it so
abbrev pub IsUnbindRows : Class → Addr → List ClassRow → RowChange ClassRow → Type 0
IsUnbindRows class a classes change = IsOkAnd (unbind_step class a classes) (λ after. (after.word ≡ outcome.Unbound) × (change ≡ unbind_change class a classes))
