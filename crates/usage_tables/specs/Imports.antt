-- The import of octets that are held already.
use Rattle.std.specs.Prelude.{◌≡◌, ℕ, Bool, false, ◌||◌, bytes_eq, List}
use Rattle.std.specs.Option.{option_map, option_map_or}
use Rattle.item_codec.specs.declared.word.Word.TheVariants.{Same}
use Rattle.usage_tables.specs.declared.approval.Approval.{Approval}
use Rattle.usage_tables.specs.declared.cached_file.CachedFile.{CachedFile}
use Rattle.usage_tables.specs.Held.{HeldFile}
use Rattle.usage_tables.specs.Files.{file_at}
use Rattle.usage_tables.specs.FileEdits.{fetched_at, approved_at}
use Rattle.usage_tables.specs.FileCommands.{FilesAfter}

abbrev pub has_octets : List ℕ → HeldFile → Bool
has_octets octets held = bytes_eq octets held.octets

abbrev pub has_approved_octets : List ℕ → HeldFile × Approval → Bool
has_approved_octets octets approved = bytes_eq octets approved.0.octets

-- the octets are those of the candidate or of the approved file
unfoldable pub holds_octets : List ℕ → CachedFile → Bool
holds_octets octets row = option_map_or (has_octets octets) row.candidate false || option_map_or (has_approved_octets octets) row.approved false

-- a row but for the moments at which its files were fetched
unfoldable pub but_moments : CachedFile → CachedFile
but_moments row = record row { approved = option_map (approved_at 0) row.approved; candidate = option_map (fetched_at 0) row.candidate }

-- nothing is said to be new, and no more changes than when files of the URL were fetched
pub record IsSameAgain (url : List ℕ) (before : List CachedFile) (after : FilesAfter) : Type 0 where
  pub word : after.word ≡ Same
  pub own : option_map but_moments (file_at url after.files) ≡ option_map but_moments (file_at url before)
  pub others : (other : List ℕ) → bytes_eq url other ≡ false → file_at other after.files ≡ file_at other before
