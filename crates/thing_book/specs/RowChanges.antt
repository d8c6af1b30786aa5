-- The rows that each command on a Thing changes, where it isn't refused.
use Rattle.std.specs.Prelude.{◌≡◌, ℕ, true, false, List, [], ◌∷◌, bytes_eq, Option, Some, None, IsOkAnd, if◌then◌else◌}
use Rattle.mud_base.specs.declared.addr.Mac.{Mac}
use Rattle.base_rows.specs.Changes.{RowChange}
use Rattle.table_model.specs.declared.thing.Thing.{Thing}
use Rattle.table_model.specs.Things.{thing_at, new_thing}
use Rattle.table_model.specs.ThingCommands.{ThingsAfter, ThingStep, is_pending, with_hold}
use Rattle.table_model.specs.ThingChanges.{puts_in}
use Rattle.thing_book.specs.declared.plan.Plan.{Plan}

-- the Thing with a URL that waits
unfoldable pub waiting_for : List ℕ → Thing → Thing
waiting_for url thing = record thing { pending = Some url }

-- a hardware address announces a URL: a new Thing, or the URL waits
unfoldable pub url_cases_change : Mac → List ℕ → Option Thing → RowChange Thing
url_cases_change mac url None = puts_in (new_thing mac url ∷ [])
url_cases_change mac url (Some thing) =
    if bytes_eq url thing.url then puts_in []
    else (if is_pending url thing.pending then puts_in [] else puts_in (waiting_for url thing ∷ []))

unfoldable pub url_change : Mac → List ℕ → List Thing → RowChange Thing
url_change mac url things = url_cases_change mac url (thing_at mac things)

-- the Thing with another URL of its own, and none that waits
unfoldable pub moved_to : List ℕ → Thing → Thing
moved_to url thing = record thing { url = url; pending = None }

-- the Thing has the URL that waited
unfoldable pub move_cases_change : List ℕ → Option Thing → RowChange Thing
move_cases_change url None = puts_in []
move_cases_change url (Some thing) =
    if bytes_eq url thing.url then puts_in [] else puts_in (moved_to url thing ∷ [])

unfoldable pub move_change : Mac → List ℕ → List Thing → RowChange Thing
move_change mac url things = move_cases_change url (thing_at mac things)

-- the row of the hardware address goes
unfoldable pub remove_change : Mac → RowChange Thing
remove_change mac = record { gone = Some mac.0; sets = [] }

-- the Thing is held, where it isn't yet
unfoldable pub hold_cases_change : Option Thing → RowChange Thing
hold_cases_change None = puts_in []
hold_cases_change (Some thing) = if thing.held then puts_in [] else puts_in (with_hold true thing ∷ [])

unfoldable pub hold_change : Mac → List Thing → RowChange Thing
hold_change mac things = hold_cases_change (thing_at mac things)

-- the Thing isn't held any more, where it is
unfoldable pub release_cases_change : Option Thing → RowChange Thing
release_cases_change None = puts_in []
release_cases_change (Some thing) = if thing.held then puts_in (with_hold false thing ∷ []) else puts_in []

unfoldable pub release_change : Mac → List Thing → RowChange Thing
release_change mac things = release_cases_change (thing_at mac things)

-- the plan says what the step says, and changes these rows
pub record Says (after : ThingsAfter) (rows : RowChange Thing) (plan : Plan) : Type 0 where
  pub word : plan.word ≡ after.word
  pub until : plan.until ≡ after.until
  pub change : plan.rows ≡ rows

-- the step isn't refused, and the plan says what it says
abbrev pub IsSaid : ThingStep → RowChange Thing → Plan → Type 0
IsSaid step rows plan = IsOkAnd step (λ after. Says after rows plan)
