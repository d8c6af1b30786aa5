use Rattle.std.proofs.Common.{length, ap, sym, subst, arith, length-drop}
use Rattle.base_rows.specs.Sortable.{SortKeysAscend}
use Rattle.base_rows.specs.Edits.{edit_sort_key}
use Rattle.acl_rows.specs.SortKeys.{row_sort_key}
use Rattle.acl_buckets.proofs.Forgotten.{limits_set}
use Rattle.acl_buckets.proofs.RunLaws.{last_run, within_by, ready_by, left_by, left_long}
use Rattle.acl_buckets.proofs.row_parts.make_last.Goals as goal

pub last_peer-start-requires-clause-some : goal.last_peer-start-requires-clause-some
last_peer-start-requires-clause-some g c = omega (arith, c.requires.some, ap length c.rows.ensures.rows)

pub last_peer-start-requires-clause-ascend : goal.last_peer-start-requires-clause-ascend
last_peer-start-requires-clause-ascend g c = subst (SortKeysAscend (edit_sort_key row_sort_key)) (sym c.rows.ensures.rows) c.rows.ensures.ascend

pub index_mut-requires : goal.index_mut-requires
index_mut-requires g c =
    let within = within_by c.last_peer-start.result.0.owner c.last_peer-start.result.0.side c.last_peer-start.result.0.addr c.args.edits.now.rows c.last_peer-start.result.1 c.number_of-number.result c.args.buckets.now.items (last_run c.last_peer-start.result.0.owner c.last_peer-start.result.0.side c.last_peer-start.result.0.addr c.args.edits.now.rows c.rows.result.now c.last_peer-start.result.1 c.rows.ensures.rows c.rows.ensures.ascend c.last_peer-start.ensures.end c.last_peer-start.ensures.own c.last_peer-start.ensures.others) c.number_of-number.ensures.number c.requires.room in
    omega (arith, within, c.args.buckets.now.ok.0)

pub make_edits_at-requires-clause-some : goal.make_edits_at-requires-clause-some
make_edits_at-requires-clause-some g c = omega (arith, c.last_peer-start.ensures.end, ap length c.rows.ensures.rows)

pub make_edits_at-requires-clause-own : goal.make_edits_at-requires-clause-own
make_edits_at-requires-clause-own g c = (ready_by c.last_peer-start.result.0.owner c.last_peer-start.result.0.side c.last_peer-start.result.0.addr c.args.edits.now.rows c.last_peer-start.result.1 c.number_of-number.result c.args.buckets.now.items (last_run c.last_peer-start.result.0.owner c.last_peer-start.result.0.side c.last_peer-start.result.0.addr c.args.edits.now.rows c.rows.result.now c.last_peer-start.result.1 c.rows.ensures.rows c.rows.ensures.ascend c.last_peer-start.ensures.end c.last_peer-start.ensures.own c.last_peer-start.ensures.others) c.number_of-number.ensures.number c.index_mut.result.now c.index_mut.ensures.value c.requires.sorted c.requires.room c.requires.found).own

pub make_edits_at-requires-clause-room : goal.make_edits_at-requires-clause-room
make_edits_at-requires-clause-room g c =
    let ready = ready_by c.last_peer-start.result.0.owner c.last_peer-start.result.0.side c.last_peer-start.result.0.addr c.args.edits.now.rows c.last_peer-start.result.1 c.number_of-number.result c.args.buckets.now.items (last_run c.last_peer-start.result.0.owner c.last_peer-start.result.0.side c.last_peer-start.result.0.addr c.args.edits.now.rows c.rows.result.now c.last_peer-start.result.1 c.rows.ensures.rows c.rows.ensures.ascend c.last_peer-start.ensures.end c.last_peer-start.ensures.own c.last_peer-start.ensures.others) c.number_of-number.ensures.number c.index_mut.result.now c.index_mut.ensures.value c.requires.sorted c.requires.room c.requires.found in
    omega (arith, ready.room, length-drop c.last_peer-start.result.1 c.args.edits.now.rows, c.last_peer-start.ensures.end, ap length c.rows.ensures.rows)

pub make_edits_at-requires-clause-found : goal.make_edits_at-requires-clause-found
make_edits_at-requires-clause-found g c = (ready_by c.last_peer-start.result.0.owner c.last_peer-start.result.0.side c.last_peer-start.result.0.addr c.args.edits.now.rows c.last_peer-start.result.1 c.number_of-number.result c.args.buckets.now.items (last_run c.last_peer-start.result.0.owner c.last_peer-start.result.0.side c.last_peer-start.result.0.addr c.args.edits.now.rows c.rows.result.now c.last_peer-start.result.1 c.rows.ensures.rows c.rows.ensures.ascend c.last_peer-start.ensures.end c.last_peer-start.ensures.own c.last_peer-start.ensures.others) c.number_of-number.ensures.number c.index_mut.result.now c.index_mut.ensures.value c.requires.sorted c.requires.room c.requires.found).found

pub returns-clause-made : goal.returns-clause-made
returns-clause-made g c =
    left_by c.last_peer-start.result.0.owner c.last_peer-start.result.0.side c.last_peer-start.result.0.addr c.args.edits.now.rows c.last_peer-start.result.1 c.number_of-number.result c.args.buckets.now.items (last_run c.last_peer-start.result.0.owner c.last_peer-start.result.0.side c.last_peer-start.result.0.addr c.args.edits.now.rows c.rows.result.now c.last_peer-start.result.1 c.rows.ensures.rows c.rows.ensures.ascend c.last_peer-start.ensures.end c.last_peer-start.ensures.own c.last_peer-start.ensures.others) c.number_of-number.ensures.number c.make_edits_at.new.edits.rows c.index_mut.result.now c.make_edits_at.new.self c.index_mut.ensures.value c.make_edits_at.ensures.left c.make_edits_at.ensures.owner c.make_edits_at.ensures.side c.make_edits_at.ensures.rows
    c.make_edits_at.ensures.others c.requires.sorted c.requires.room c.requires.found

pub returns-clause-counted : goal.returns-clause-counted
returns-clause-counted g c =
    let long = left_long c.args.edits.now.rows c.rows.result.now c.make_edits_at.new.edits.rows c.last_peer-start.result.1 c.rows.ensures.rows c.last_peer-start.ensures.end c.make_edits_at.ensures.left in
    omega (arith, long, c.make_edits_at.ensures.counted)

pub returns-clause-fewer : goal.returns-clause-fewer
returns-clause-fewer g c =
    let long = left_long c.args.edits.now.rows c.rows.result.now c.make_edits_at.new.edits.rows c.last_peer-start.result.1 c.rows.ensures.rows c.last_peer-start.ensures.end c.make_edits_at.ensures.left in
    omega (arith, long, c.last_peer-start.ensures.end, ap length c.rows.ensures.rows)

pub returns-clause-limits : goal.returns-clause-limits
returns-clause-limits g c =
    let within = within_by c.last_peer-start.result.0.owner c.last_peer-start.result.0.side c.last_peer-start.result.0.addr c.args.edits.now.rows c.last_peer-start.result.1 c.number_of-number.result c.args.buckets.now.items (last_run c.last_peer-start.result.0.owner c.last_peer-start.result.0.side c.last_peer-start.result.0.addr c.args.edits.now.rows c.rows.result.now c.last_peer-start.result.1 c.rows.ensures.rows c.rows.ensures.ascend c.last_peer-start.ensures.end c.last_peer-start.ensures.own c.last_peer-start.ensures.others) c.number_of-number.ensures.number c.requires.room in
    limits_set c.args.buckets.now.items c.number_of-number.result c.index_mut.result.now c.make_edits_at.new.self within c.index_mut.ensures.value c.make_edits_at.ensures.limit
