use Rattle.std.proofs.Common.{◌≡◌, ◌+◌, ◌++◌, ◌∷◌, [], ◌∙◌, arith}
use Rattle.base_rows.proofs.RunLaws.{last_moved, image_added}
use Rattle.base_rows.proofs.sortable.runs.append_run.Goals as goal

pub loop-rows-preserved : goal.loop-rows-preserved
loop-rows-preserved g c =
    let n = c.take_last.new.self.len in
    let more : c.loop-rows.held.len ≡ n + 1 = omega (arith, c.take_last.ensures.len) in
    let moved = last_moved c.args.held.now.items c.loop-rows.held.items c.take_last.new.self.items n c.loop-rows.held.len c.take_last.result c.loop-rows.invariant.held c.take_last.ensures.items more (omega (arith, c.loop-rows.invariant.fewer, c.args.held.now.ok.0)) in
    record {
      first = omega (arith, c.loop-rows-test.true, c.take_last.ensures.len);
      fewer = omega (arith, c.take_last.ensures.len, c.loop-rows.invariant.fewer);
      held = moved.left;
      rows =
          c.push_reserved.ensures.items
          ∙ (λ i. c.loop-rows.invariant.rows i ++ c.into_row.ensures i ∷ [])
          ∙ image_added g.E.HoldsRow.row_of c.args.rows.now.items c.args.held.now.items n c.loop-rows.held.len c.take_last.result moved.next more;
      len = omega (arith, c.take_last.ensures.len, c.push_reserved.ensures.len, c.loop-rows.invariant.len);
      capacity = c.push_reserved.ensures.capacity ∙ c.loop-rows.invariant.capacity;
      held_capacity = c.take_last.ensures.capacity ∙ c.loop-rows.invariant.held_capacity;
    }
