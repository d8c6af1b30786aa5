use Rattle.std.proofs.Common.{◌≡◌, ℕ, List, ◌++◌, take}
use Rattle.std.specs.List.{list_any}
use Rattle.acl_changes.specs.Spots.{is_keyed, spot_if, spots_in}
use Rattle.acl_changes.proofs.index.add_entry.Given as goal

abbrev pub invariant-loop-index : goal.invariant-loop-index
invariant-loop-index l = (p : List ℕ) → spots_in l.groups.rows p ≡ spots_in l.initial.groups.rows p ++ spot_if (list_any (is_keyed l.url p) (take l.index l.selectors)) l.spot
