use Rattle.std.proofs.Common.{◌≡◌, take}
use Rattle.acl_model.proofs.entry.copied_entries.Given as goal

-- those so far are copied
abbrev pub invariant-loop-entry : goal.invariant-loop-entry
invariant-loop-entry l = l.copies ≡ take l.entry-index l.originals
