use Rattle.std.proofs.Common.{List, ℕ, ◌++◌, arith}
use Rattle.acl_changes.specs.Spots.{side_spots, spots_in}
use Rattle.acl_changes.proofs.SpotLaws.{entry_more, entry_step, entries_done}
use Rattle.acl_changes.proofs.index.add_side.Goals as goal

pub loop-entry-preserved : goal.loop-entry-preserved
loop-entry-preserved c = record {
  counted = omega (arith, c.loop-entry.invariant.counted);
  listed = λ (p : List ℕ).
      entry_more (spots_in c.add_entry.new.groups.rows p) (spots_in c.loop-entry.groups.rows p) (spots_in c.args.groups.now.rows p ++ side_spots c.args.url.now p c.args.side c.args.entries.now)
      c.args.url.now p c.args.side c.args.entries.now c.loop-entry.entry-index c.entry-item.result (omega arith) c.entry-item.is (c.loop-entry.invariant.listed p)
      (entry_step (spots_in c.add_entry.new.groups.rows p) (spots_in c.loop-entry.groups.rows p) c.args.url.now p c.args.side c.loop-entry.number c.loop-entry.entry-index c.entry-item.result c.as_slice.result.now
      c.as_slice.ensures c.loop-entry.invariant.counted (c.in_ok-add_entry.ensures p));
}

pub returns : goal.returns
returns c = λ (p : List ℕ).
    entries_done (spots_in c.loop-entry.groups.rows p) (spots_in c.args.groups.now.rows p ++ side_spots c.args.url.now p c.args.side c.args.entries.now)
    c.args.url.now p c.args.side c.args.entries.now c.loop-entry.entry-index (omega arith) (c.loop-entry.invariant.listed p)
