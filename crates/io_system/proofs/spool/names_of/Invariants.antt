use Rattle.std.proofs.Common.{◌≡◌}
use Rattle.io_system.specs.Folders.{names_of, ArePassed}
use Rattle.io_system.proofs.spool.names_of.Given as goal

abbrev pub invariant-entries : goal.invariant-entries
invariant-entries g l = (l.names ≡ names_of l.yielded) × ArePassed l.yielded
