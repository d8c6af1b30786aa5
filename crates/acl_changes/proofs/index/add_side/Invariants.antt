use Rattle.std.proofs.Common.{◌≡◌, ℕ, ◌+◌, List, ◌++◌, drop}
use Rattle.std.specs.Prelude.{flat_map}
use Rattle.acl_rows.specs.Rows.{numbered}
use Rattle.acl_changes.specs.Spots.{entry_spots, side_spots, spots_in}
use Rattle.acl_changes.proofs.index.add_side.Given as goal

abbrev pub invariant-loop-entry : goal.invariant-loop-entry
invariant-loop-entry l = record {
  counted : l.number ≡ l.entry-index;
  listed : (p : List ℕ) → spots_in l.groups.rows p ++ flat_map (entry_spots l.url p l.side) (numbered (l.entry-index + 1) (drop l.entry-index l.entries)) ≡ spots_in l.initial.groups.rows p ++ side_spots l.url p l.side l.entries;
}
