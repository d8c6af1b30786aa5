use Rattle.std.proofs.Common.{sym, subst}
use Rattle.usage_tables.specs.Files.{IsSoundFiles}
use Rattle.file_cache.proofs.Commits.{no_files_sound}
use Rattle.file_cache.proofs.cache.FileCache.new.Goals as goal

pub invariant_of-result : goal.invariant_of-result
invariant_of-result c = subst IsSoundFiles (sym c.new.ensures.rows) no_files_sound
