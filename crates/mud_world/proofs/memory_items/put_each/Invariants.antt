use Rattle.std.proofs.Common.{◌≡◌, ◌≤◌, length}
use Rattle.std.specs.Vec.Iter.{into_iter_items}
use Rattle.mud_world.specs.Items.{put_all}
use Rattle.mud_world.proofs.memory_items.put_each.Given as goal

abbrev pub invariant-loop-put : goal.invariant-loop-put
invariant-loop-put l = record {
  can : (goal.iterator-loop-put).can_next l.put-iterator;
  finite : (goal.iterator-loop-put).is_finite l.put-iterator;
  rest : put_all l.items.rows (into_iter_items l.put-iterator) ≡ put_all l.initial.items.rows l.fn.puts.items;
  room : length (into_iter_items l.put-iterator) ≤ l.items.room;
}
