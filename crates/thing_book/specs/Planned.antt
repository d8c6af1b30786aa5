-- The Things of the book, and what a planned change says and does.
use Rattle.std.specs.Prelude.{◌≡◌, ◌≢◌, ◌↔◌, ℕ, ◌≤◌, false, List, [], length, Option, Result, Err, IfOk, IfErr, IsOkAnd}
use Rattle.base_rows.specs.Changes.{RowChange, changed}
use Rattle.item_codec.specs.Kinds.{thing_kind}
use Rattle.mud_world.specs.declared.item.Put.{Put}
use Rattle.mud_world.specs.Items.{IsDifference, ArePutsOf}
use Rattle.acl_model.specs.declared.binding.Binding.{Binding}
use Rattle.acl_model.specs.Changes.{IsBindingChange}
use Rattle.item_codec.specs.declared.word.Word as outcome
use Rattle.table_model.specs.declared.thing.Thing.{Thing}
use Rattle.table_model.specs.declared.thing_fault.ThingFault.{ThingFault}
use Rattle.table_model.specs.declared.thing_fault.ThingFault.TheVariants.{Memory}
use Rattle.table_model.specs.Things.{mac_of, IsSoundThings}
use Rattle.table_model.specs.ThingCommands.{ThingsAfter, ThingStep}
use Rattle.table_model.specs.ThingItems.{thing_items}
use Rattle.table_model.specs.Tables.{Tables}
use Rattle.table_model.specs.Bindings.{bindings_of}

-- the Things, and how many more there is room for without memory
pub record Things : Type 0 where
  pub things : List Thing
  pub room : ℕ

-- what is answered, the expiry that is kept for a lease, the rows that change, the puts that the change means without
-- that of the stamp, and the bindings that go and that come
pub record PlannedThings : Type 0 where
  pub word : outcome.Word
  pub until : Option ℕ
  pub rows : RowChange Thing
  pub puts : List Put
  pub gone : List Binding
  pub come : List Binding

-- The change is the step from the Things of the book, in all that it says and does.
pub record IsPlanned (after : ThingsAfter) (book : Things) (change : PlannedThings) : Type 0 where
  pub word : change.word ≡ after.word
  pub until : change.until ≡ after.until
  -- it leads to the Things of the step, and these are sound
  pub leads : changed mac_of change.rows book.things ≡ after.things
  pub sound : IsSoundThings after.things
  -- its puts are the items in which they differ: at most two, and none exactly where the step changes nothing
  pub puts : IsDifference (thing_items book.things) (thing_items after.things) change.puts
  pub kind : ArePutsOf thing_kind change.puts
  pub few : length change.puts ≤ 2
  pub none : (change.puts ≡ []) ↔ (after.changes ≡ false)
  -- whatever stands in the other tables, these bindings go and these come
  pub bindings : (tables : Tables) → tables.things ≡ book.things
      → IsBindingChange (bindings_of tables) (bindings_of (record tables { things = after.things })) change.gone change.come
  -- the book has the room that the change takes
  pub room : length change.rows.sets ≤ book.room

-- the step isn't refused, and the change is it
abbrev pub IsPlanOf : ThingStep → Things → PlannedThings → Type 0
IsPlanOf step book change = IsOkAnd step (λ after. IsPlanned after book change)

-- What a commit of the change needs, whichever the step: room for the rows that are put in, and sound Things afterwards.
pub record IsReady (book : Things) (change : PlannedThings) : Type 0 where
  pub enough : length change.rows.sets ≤ book.room
  pub sound : IsSoundThings (changed mac_of change.rows book.things)

-- the step is refused so, or memory was wanted
abbrev pub IsRefusal : ThingStep → ThingFault → Type 0
IsRefusal step fault = fault ≢ Memory → step ≡ Err fault

-- What planning a command makes of the book: its Things stay; a change that is planned is the step, and can be committed;
-- and a refusal is the step's, or memory was wanted.
pub record Plans (step : ThingStep) (before after : Things) (result : Result PlannedThings ThingFault) : Type 0 where
  pub same : after.things ≡ before.things
  pub ok : IfOk result (IsPlanOf step after)
  pub ready : IfOk result (IsReady after)
  pub err : IfErr result (IsRefusal step)
