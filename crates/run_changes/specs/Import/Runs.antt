-- What an import of a folder leaves: of the session, of the clock, of the connection, and of the keeper's count of faults.
use Rattle.std.specs.Prelude.{◌≡◌, ℕ, ◌≤◌, ◌⊎◌, List, ◌++◌, length, take}
use Rattle.mud_world.specs.Causes.{RoseBy}
use Rattle.mud_world.specs.Clock.{later_moments}
use Rattle.mud_world.specs.Door.{DoorState, put_out}
use Rattle.run_changes.specs.Import.Entries.{Entry, names_of_entries, lines_of, status_of, keeper_count}
use Rattle.run_changes.specs.Import.Imports.{Standing, Imports}

-- where an import stands, its door, and how often the keeper has failed
pub record Scene : Type 0 where
  pub standing : Standing
  pub door : DoorState
  pub faults : ℕ

-- All names were gone through in order, the line of each was written, and the status is that of all. The keeper's count rose by
-- at least the number of the lines that say that it failed.
pub record ImportsAll (files : List (List ℕ × List ℕ)) (names : List (List ℕ)) (before after : Scene) (status : ℕ) : Type 0 where
  pub entries : List Entry
  pub named : names_of_entries entries ≡ names
  pub run : Imports files before.standing entries after.standing
  pub wrote : after.door ≡ put_out (lines_of entries) before.door
  pub status_is : status ≡ status_of entries
  pub paid : RoseBy (keeper_count entries) before.faults after.faults

-- Some of the names were gone through, in order from the first on. The line of each was written, of the last one maybe in part
-- or not at all. The clock may have been asked for one command more, which changed nothing.
pub record ImportsPart (files : List (List ℕ × List ℕ)) (names : List (List ℕ)) (before after : Scene) : Type 0 where
  pub said : List Entry
  pub last : List Entry
  pub single : length last ≤ 1
  pub rest : List (List ℕ)
  pub named : names_of_entries (said ++ last) ++ rest ≡ names
  pub reached : Standing
  pub run : Imports files before.standing (said ++ last) reached
  pub session : after.standing.session ≡ reached.session
  pub clock : (after.standing.moments ≡ reached.moments) ⊎ (after.standing.moments ≡ later_moments reached.moments)
  pub count : ℕ
  pub wrote : after.door ≡ put_out (lines_of said ++ take count (lines_of last)) before.door
  pub paid : RoseBy (keeper_count (said ++ last)) before.faults after.faults
