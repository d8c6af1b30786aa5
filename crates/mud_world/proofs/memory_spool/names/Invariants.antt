use Rattle.std.proofs.Common.{◌≡◌, take}
use Rattle.mud_world.specs.Files.{names_of}
use Rattle.mud_world.proofs.memory_spool.names.Given as goal

abbrev pub invariant-loop-file : goal.invariant-loop-file
invariant-loop-file l = l.names ≡ names_of (take l.file-index l.files)
