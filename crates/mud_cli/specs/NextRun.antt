-- What the next run over a store finds.
use Rattle.std.specs.Prelude.{◌⊎◌, Bool, true, false, IsTrue, List}
use Rattle.mud_world.specs.declared.item.Item.{Item}
use Rattle.mud_world.specs.declared.keeper.Keeper.{Ghosts}
use Rattle.mud_world.specs.Kept.{Tells, kept_items}
use Rattle.desk_model.specs.DeskTables.{DeskTables}
use Rattle.desk_model.specs.Keeping.{KeepsSame}
use Rattle.desk_model.specs.Kept.{IsKept, IsOrAfter}
use Rattle.run_words.specs.declared.command.Command.{Command}
use Rattle.run_words.specs.declared.command.Command.TheVariants.{Hear, Check, Frames, Judge, Snoop, Tally, Import, Replay, Serve, Report, Export, Drill}

-- the commands that change no table
abbrev pub only_reads : Command → Bool
only_reads (Hear message) = true
only_reads Check = true
only_reads Frames = true
only_reads Judge = true
only_reads Snoop = false
only_reads Tally = true
only_reads Import = false
only_reads Replay = false
only_reads (Serve port count) = false
only_reads (Report kind) = true
only_reads (Export mac) = true
only_reads (Drill packets) = false

module _ {K : Type 0} (members : Ghosts K) where
  -- Of a run that began with these items: where a desk was opened, the list has the items of the tables that are kept, or those behind
  -- one command more; else it keeps the same desk as the items before.
  abbrev pub IsKeptBehind : List Item → K → List Item → Type 0
  IsKeptBehind before returned list = ((tables : DeskTables) × IsKept members returned tables × IsOrAfter tables list) ⊎ KeepsSame before list

  -- Whatever a crash leaves at the end of a run could be left before it, or is such a list: also where a failure shut the keeper.
  abbrev pub LeavesBehind : K → K → Type 0
  LeavesBehind keeper returned =
      Tells members keeper → (list : List Item) → members.left returned list → members.left keeper list ⊎ IsKeptBehind (kept_items members keeper) returned list

  -- Behind a command that changes no table, each such list could be left before it, or keeps the same desk as the items before.
  abbrev pub LeavesSame : K → K → Command → Type 0
  LeavesSame keeper returned command =
      IsTrue (only_reads command) → Tells members keeper → (list : List Item) → members.left returned list
      → members.left keeper list ⊎ KeepsSame (kept_items members keeper) list
