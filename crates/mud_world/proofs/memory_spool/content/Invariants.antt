use Rattle.std.proofs.Common.{◌≡◌, drop}
use Rattle.mud_world.specs.Files.{content_of}
use Rattle.mud_world.proofs.memory_spool.content.Given as goal

abbrev pub invariant-loop-file : goal.invariant-loop-file
invariant-loop-file l = content_of (drop l.file-index l.files) l.name ≡ content_of l.files l.name
