use Rattle.std.proofs.Common.{length}
use Rattle.acl_changes.proofs.change.Change.+entries_fresh.Given as goal

-- proposed from what the function passes where it calls itself
abbrev pub decreases-entries_fresh : goal.decreases-entries_fresh
decreases-entries_fresh g l = length l.entries.now
