-- Which calls of a spool in memory fail, and what they leave.
use Rattle.std.specs.Prelude.{◌≡◌, ℕ, Bool, false, ◌||◌, List, [], is_none}
use Rattle.mud_world.specs.declared.memory_spool.MemorySpool.{MemorySpool}
use Rattle.mud_world.specs.declared.memory_spool.SpoolCalls.{SpoolCalls}
use Rattle.mud_world.specs.Calls.{is_listed, next_call}
use Rattle.mud_world.specs.Files.{content_of}

abbrev pub list_fails : MemorySpool → Bool
list_fails spool = is_listed spool.failing_list (next_call spool.calls.list)

-- a read fails where it is listed, and where there is no file of the name
abbrev pub read_fails : MemorySpool → List ℕ → Bool
read_fails spool name = is_listed spool.failing_read (next_call spool.calls.read) || is_none (content_of spool.files name)

abbrev pub no_calls : SpoolCalls
no_calls = record { list = 0; read = 0 }

-- A spool that was just made.
pub record IsNew (files : List (List ℕ × List ℕ)) (spool : MemorySpool) : Type 0 where
  pub given : spool.files ≡ files
  pub failing_list : spool.failing_list ≡ []
  pub failing_read : spool.failing_read ≡ []
  pub count : spool.count ≡ 0
  pub fine : spool.failed ≡ false
  pub calls : spool.calls ≡ no_calls

-- What no call changes: the files, and the calls that are to fail.
pub record SameScript (old new : MemorySpool) : Type 0 where
  pub files : new.files ≡ old.files
  pub failing_list : new.failing_list ≡ old.failing_list
  pub failing_read : new.failing_read ≡ old.failing_read
