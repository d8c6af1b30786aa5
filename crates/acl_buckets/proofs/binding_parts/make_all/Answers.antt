use Rattle.std.proofs.Common.{◌≡◌, ◌+◌, ◌-◌, List, length, sym, ap, ◌∙◌, arith}
use Rattle.std.proofs.lemmas.Option.{slice_get_within}
use Rattle.acl_model.specs.declared.binding.Binding.{Binding}
use Rattle.acl_model.specs.SortKeys.{binding_sort_key}
use Rattle.base_rows.specs.declared.edit.Edit.{Edit}
use Rattle.base_rows.specs.Edits.{edited}
use Rattle.acl_buckets.specs.BindingParts.{joined}
use Rattle.acl_buckets.proofs.EditLaws.{is_last, here_room, here_found, left_room, left_found, left_made, bucketed_edited}
use Rattle.acl_buckets.proofs.binding_parts.make_all.Goals as goal

pub make_one-requires-clause-room : goal.make_one-requires-clause-room
make_one-requires-clause-room g c =
    let es : List (Edit Binding) = c.loop-left.left.rows in
    let i = length c.rows-edits.result.now - 1 in
    let within = slice_get_within es i c.take_at-edit.result c.take_at-edit.ensures.row in
    let long : length es ≡ i + 1 = omega (arith, within, ap length c.rows-edits.ensures.rows) in
    here_room es c.take_at-edit.new.self.rows c.take_at-edit.result (is_last es c.take_at-edit.new.self.rows c.take_at-edit.result i c.rows-edits.ensures.ascend long c.take_at-edit.ensures.row c.take_at-edit.ensures.rows) c.loop-left.buckets.items c.loop-left.invariant.room

pub make_one-requires-clause-found : goal.make_one-requires-clause-found
make_one-requires-clause-found g c =
    let es : List (Edit Binding) = c.loop-left.left.rows in
    let i = length c.rows-edits.result.now - 1 in
    let within = slice_get_within es i c.take_at-edit.result c.take_at-edit.ensures.row in
    let long : length es ≡ i + 1 = omega (arith, within, ap length c.rows-edits.ensures.rows) in
    here_found es c.take_at-edit.new.self.rows c.take_at-edit.result (is_last es c.take_at-edit.new.self.rows c.take_at-edit.result i c.rows-edits.ensures.ascend long c.take_at-edit.ensures.row c.take_at-edit.ensures.rows) c.loop-left.buckets.items c.loop-left.invariant.found

pub loop-left-preserved : goal.loop-left-preserved
loop-left-preserved g c =
    let es : List (Edit Binding) = c.loop-left.left.rows in
    let rest : List (Edit Binding) = c.take_at-edit.new.self.rows in
    let e : Edit Binding = c.take_at-edit.result in
    let i = length c.rows-edits.result.now - 1 in
    let within = slice_get_within es i e c.take_at-edit.ensures.row in
    let long : length es ≡ i + 1 = omega (arith, within, ap length c.rows-edits.ensures.rows) in
    let last = is_last es rest e i c.rows-edits.ensures.ascend long c.take_at-edit.ensures.row c.take_at-edit.ensures.rows in
    let old = c.loop-left.buckets.items in
    let new = c.make_one.new.buckets.items in
    let is = c.make_one.ensures.buckets in
    record {
      bucketed = bucketed_edited e old new is c.loop-left.invariant.bucketed;
      rows = left_made es rest e last old new is c.loop-left.invariant.bucketed ∙ c.loop-left.invariant.rows;
      found = left_found es rest e last old new is c.loop-left.invariant.bucketed c.loop-left.invariant.found;
      room = left_room es rest e last old new is c.loop-left.invariant.room;
      counted = omega (arith, last.long, c.make_one.ensures.counted, c.loop-left.invariant.counted);
    }

pub returns-clause-rows : goal.returns-clause-rows
unfolding edited
returns-clause-rows g c =
    ap (λ (ws : List (Edit Binding)). edited binding_sort_key ws (joined c.loop-left.buckets.items)) (sym (c.is_empty.ensures.0 c.loop-left-test.false))
    ∙ c.loop-left.invariant.rows
