-- What a planned change says and does.
use Rattle.std.specs.Prelude.{◌≡◌, ◌≢◌, ◌↔◌, ℕ, ◌≤◌, false, bytes_eq, if◌then◌else◌, List, [], length, Result, Ok, Err, IsErr, IfOk, IfErr, IsOkAnd, IsErrAnd, Option, Some, None}
use Rattle.item_codec.specs.Kinds.{file_kind}
use Rattle.mud_world.specs.Items.{IsDifference, ArePutsOf}
use Rattle.usage_walk.specs.declared.fault.Broken.{Broken}
use Rattle.mud_file.specs.declared.usage_file.UsageFile.{UsageFile}
use Rattle.usage_tables.specs.declared.cached_file.CachedFile.{CachedFile}
use Rattle.usage_tables.specs.declared.cache_fault.CacheFault.{CacheFault}
use Rattle.usage_tables.specs.declared.cache_fault.CacheFault.TheVariants.{Memory, File}
use Rattle.usage_tables.specs.Files.{IsSoundFiles}
use Rattle.usage_tables.specs.FileCommands.{FilesAfter, FileStep}
use Rattle.usage_tables.specs.FileEdits.{edited, room_for, is_change}
use Rattle.usage_tables.specs.FileItems.{file_items, edit_puts}
use Rattle.usage_tables.specs.Policies.{policy_of, policy_change, policy_after}
use Rattle.file_cache.specs.Changes.{Files, PlannedFile}

-- The change is the step from the files of the cache, in all that it says and does.
pub record IsPlanned (after : FilesAfter) (cache : Files) (change : PlannedFile) : Type 0 where
  pub word : change.word ≡ after.word
  pub url : change.url ≡ after.url
  -- it leads to the files of the step, and these are sound
  pub leads : edited change.edit change.url cache.files ≡ after.files
  pub sound : IsSoundFiles after.files
  -- its puts are the items in which they differ: at most two, and none exactly where the step changes nothing
  pub puts : IsDifference (file_items cache.files) (file_items after.files) change.puts
  pub kind : ArePutsOf file_kind change.puts
  pub few : length change.puts ≤ 2
  pub none : (change.puts ≡ []) ↔ (after.changes ≡ false)
  -- it changes the policy of its URL as it says, and no other
  pub policies : (url : List ℕ) → policy_of after.files url ≡ (if bytes_eq change.url url then policy_after (policy_change change.edit) cache.files change.url else policy_of cache.files url)
  -- the cache has the room that it takes
  pub room : room_for change.edit ≤ cache.room

-- the step isn't refused, and the change is it
abbrev pub IsPlanOf : FileStep → Files → PlannedFile → Type 0
IsPlanOf step cache change = IsOkAnd step (λ after. IsPlanned after cache change)

-- the step is refused so, or memory was wanted
abbrev pub IsRefusal : FileStep → CacheFault → Type 0
IsRefusal step fault = fault ≢ Memory → step ≡ Err fault

-- What planning a command makes of the cache: its files stay; a change that is planned is the step; and a refusal is the
-- step's, or memory was wanted.
pub record Plans (step : FileStep) (before after : Files) (result : Result PlannedFile CacheFault) : Type 0 where
  pub same : after.files ≡ before.files
  pub ok : IfOk result (IsPlanOf step after)
  pub err : IfErr result (IsRefusal step)

abbrev pub IsMemory : CacheFault → Type 0
IsMemory fault = fault ≡ Memory

-- the octets are no usage file, by this fault
abbrev pub IsRefusedFile : CacheFault → Result UsageFile Broken → Type 0
IsRefusedFile fault read = IsErrAnd read (λ broken. fault ≡ File broken)

-- the octets are refused so, or memory was wanted
abbrev pub IsUnread : Result UsageFile Broken → CacheFault → Type 0
IsUnread read fault = fault ≢ Memory → IsRefusedFile fault read

-- the file that the octets are, or none where they are none
abbrev pub IsReadAs : Result UsageFile Broken → Option UsageFile → Type 0
IsReadAs read (Some file) = read ≡ Ok file
IsReadAs read None = IsErr read

-- The change says what the step says and leads to its files, with the puts of its edit.
pub record IsMade (after : FilesAfter) (files : List CachedFile) (change : PlannedFile) : Type 0 where
  pub word : change.word ≡ after.word
  pub url : change.url ≡ after.url
  pub leads : edited change.edit change.url files ≡ after.files
  pub tells : is_change change.edit ≡ after.changes
  pub puts : change.puts ≡ edit_puts change.edit change.url files

-- what was made is the step from these files, or its refusal
abbrev pub Makes : FileStep → List CachedFile → Result PlannedFile CacheFault → Type 0
Makes step files (Ok change) = IsOkAnd step (λ after. IsMade after files change)
Makes step files (Err fault) = IsRefusal step fault
