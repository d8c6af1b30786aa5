use Rattle.std.proofs.Common.{List, length, sym, ap, ◌∙◌, arith}
use Rattle.std.specs.Vec.Iter.{into_iter_items}
use Rattle.mud_world.specs.declared.item.Item.{Item}
use Rattle.mud_world.specs.Items.{put_all}
use Rattle.mud_world.proofs.memory_items.put_each.Goals as goal

pub put_once-requires : goal.put_once-requires
put_once-requires c = omega (arith, ap length c.in-Some.ensures.steps.0)

pub loop-put-preserved : goal.loop-put-preserved
loop-put-preserved c =
    let rows = c.loop-put.items.rows in
    let rest = into_iter_items c.next.new.self in
    record {
      can = tt;
      finite = tt;
      rest =
          ap (λ (items : List Item). put_all items rest) c.put_once.ensures.rows
          ∙ sym (ap (put_all rows) c.in-Some.ensures.steps.0) ∙ c.loop-put.invariant.rest;
      room = omega (arith, ap length c.in-Some.ensures.steps.0, c.put_once.ensures.room);
    }
