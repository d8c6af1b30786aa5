use Rattle.std.proofs.Common.{◌≡◌, take}
use Rattle.acl_model.proofs.entry.copied_selectors.Given as goal

-- those so far are copied
abbrev pub invariant-loop-selector : goal.invariant-loop-selector
invariant-loop-selector l = l.copies ≡ take l.selector-index l.originals
