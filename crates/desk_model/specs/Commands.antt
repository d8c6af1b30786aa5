-- What each command answers, and the desk after it.
use Rattle.std.specs.Prelude.{◌≡◌, ℕ, ◌≤◌, ◌<◌, ◌^◌, Bool, true, false, IsTrue, List, length, Option, Some, None, Result, Ok, Err, if◌then◌else◌}
use Rattle.std.specs.List.{AllByRecursion}
use Rattle.mud_base.specs.declared.addr.Mac.{Mac}
use Rattle.mud_url.specs.Url.{is_canonical}
use Rattle.item_codec.specs.declared.word.Word as done_word
use Rattle.table_model.specs.ItemFields.{IsAddr}
use Rattle.table_model.specs.ThingCommands.{ThingStep, url_step, move_step, remove_step, hold_step, release_step, lease_step, end_step}
use Rattle.table_model.specs.Binds.{is_class, is_name, IsKeptNetwork}
use Rattle.table_model.specs.BindCommands.{BindStep, bind_class_step, unbind_class_step, set_locals_step, observe_name_step}
use Rattle.table_model.specs.Tables.{binds_of}
use Rattle.usage_tables.specs.FileCommands.{FileStep, import_step, verdict_step, revoke_step}
use Rattle.usage_tables.specs.Limits.{last_moment}
use Rattle.desk_model.specs.declared.command.Command.{Command}
use Rattle.desk_model.specs.declared.command.Command.TheVariants.{HearUrl, HearLease, Move, Remove, Hold, Release, Lease, EndLease, Import, Verdict, Revoke, Bind, Unbind, Locals, Observe}
use Rattle.desk_model.specs.declared.reply.Outcome.{Outcome}
use Rattle.desk_model.specs.declared.reply.Refusal.{Refusal}
use Rattle.desk_model.specs.declared.reply.Refusal.TheVariants.{Things, Files, Binds}
use Rattle.desk_model.specs.DeskTables.{DeskTables, HaveSameLists, with_things, with_files, with_desk_binds}

-- what the command answers, whether it changes a list, and the desk after it
pub record DeskAfter : Type 0 where
  pub outcome : Outcome
  pub changes : Bool
  pub desk : DeskTables

-- a refusal changes nothing
abbrev pub DeskStep : Type 0
DeskStep = Result DeskAfter Refusal

abbrev pub outcome : done_word.Word → Option ℕ → Option (List ℕ) → Outcome
outcome word until url = record { word = word; until = until; url = url }

-- where a list changes, the stamp is the moment of the command, and else it stays
unfoldable pub stamped : Bool → ℕ → DeskTables → DeskTables
stamped changes now desk = if changes then record desk { stamp = Some now } else desk

abbrev pub desk_after : Outcome → Bool → ℕ → DeskTables → DeskStep
desk_after outcome changes now desk = Ok (record { outcome = outcome; changes = changes; desk = stamped changes now desk })

-- ---- The books: a step on the lists of one of them leaves those of the others

unfoldable pub by_things : DeskTables → ℕ → ThingStep → DeskStep
by_things desk now (Ok after) = desk_after (outcome after.word after.until None) after.changes now (with_things after.things desk)
by_things desk now (Err fault) = Err (Things fault)

unfoldable pub by_files : DeskTables → ℕ → FileStep → DeskStep
by_files desk now (Ok after) = desk_after (outcome after.word None (Some after.url)) after.changes now (with_files after.files desk)
by_files desk now (Err fault) = Err (Files fault)

unfoldable pub by_binds : DeskTables → ℕ → BindStep → DeskStep
by_binds desk now (Ok after) = desk_after (outcome after.word after.until None) after.changes now (with_desk_binds after.binds desk)
by_binds desk now (Err fault) = Err (Binds fault)

-- ---- The commands, each at a moment

unfoldable pub command_step : DeskTables → ℕ → Command → DeskStep
command_step desk now (HearUrl mac url) = by_things desk now (url_step mac url desk.tables.things)
command_step desk now (HearLease mac a seconds) = by_things desk now (lease_step mac a seconds now true desk.tables.things)
command_step desk now (Move mac url) = by_things desk now (move_step mac url desk.tables.things)
command_step desk now (Remove mac) = by_things desk now (remove_step mac desk.tables.things)
command_step desk now (Hold mac) = by_things desk now (hold_step mac desk.tables.things)
command_step desk now (Release mac) = by_things desk now (release_step mac desk.tables.things)
command_step desk now (Lease mac a seconds) = by_things desk now (lease_step mac a seconds now false desk.tables.things)
command_step desk now (EndLease a) = by_things desk now (end_step a desk.tables.things)
command_step desk now (Import octets fetched) = by_files desk now (import_step octets fetched desk.files)
command_step desk now (Verdict url digest verdict) = by_files desk now (verdict_step url digest verdict desk.files)
command_step desk now (Revoke url) = by_files desk now (revoke_step url desk.files)
command_step desk now (Bind class a) = by_binds desk now (bind_class_step class a (binds_of desk.tables))
command_step desk now (Unbind class a) = by_binds desk now (unbind_class_step class a (binds_of desk.tables))
command_step desk now (Locals prefixes) = by_binds desk now (set_locals_step prefixes (binds_of desk.tables))
command_step desk now (Observe name a seconds) = by_binds desk now (observe_name_step name a seconds now (binds_of desk.tables))

-- ---- What a command may be

-- a hardware address has six octets
abbrev pub IsMac : Mac → Type 0
IsMac mac = length mac.0 ≡ 6

-- a number of seconds fits 32 bits
abbrev pub IsSeconds : ℕ → Type 0
IsSeconds seconds = seconds < 2 ^ 32

-- what every command is by the types of its parts
abbrev pub IsTyped : Command → Type 0
IsTyped (HearUrl mac url) = IsMac mac × IsTrue (is_canonical url)
IsTyped (HearLease mac a seconds) = IsMac mac × IsAddr a × IsSeconds seconds
IsTyped (Move mac url) = IsMac mac × IsTrue (is_canonical url)
IsTyped (Remove mac) = IsMac mac
IsTyped (Hold mac) = IsMac mac
IsTyped (Release mac) = IsMac mac
IsTyped (Lease mac a seconds) = IsMac mac × IsAddr a × IsSeconds seconds
IsTyped (EndLease a) = IsAddr a
IsTyped (Import octets fetched) = fetched ≤ last_moment
IsTyped (Verdict url digest verdict) = IsTrue (is_canonical url)
IsTyped (Revoke url) = IsTrue (is_canonical url)
IsTyped (Bind class a) = IsAddr a
IsTyped (Unbind class a) = IsAddr a
IsTyped (Locals prefixes) = AllByRecursion IsKeptNetwork prefixes
IsTyped (Observe name a seconds) = IsAddr a × IsSeconds seconds

-- what the caller sees to: a class by URI has 1 to 255 octets from 21 to 7E hex; a lease is for at least a second; a name is
-- a host name in lower case, observed for 1 to 2,147,483,647 seconds (RFC 2181, 8)
abbrev pub IsAsked : Command → Type 0
IsAsked (Bind class a) = IsTrue (is_class class)
IsAsked (Lease mac a seconds) = 0 < seconds
IsAsked (Observe name a seconds) = IsTrue (is_name name) × (0 < seconds) × (seconds ≤ 2147483647)
IsAsked _ = Unit {0}

pub record IsCommand (command : Command) : Type 0 where
  pub typed : IsTyped command
  pub asked : IsAsked command

-- ---- What holds of every step

-- the step says truly whether a list changes, and the stamp is the moment exactly where one does
pub record TellsChange (before : DeskTables) (now : ℕ) (after : DeskAfter) : Type 0 where
  pub same : after.changes ≡ false → after.desk ≡ before
  pub other : after.changes ≡ true → ¬ HaveSameLists before after.desk
  pub stamp : after.changes ≡ true → after.desk.stamp ≡ Some now
