use Rattle.std.proofs.Common.{◌≡◌, ◌≤◌, ◌<◌, List, length, get_or, ap, subst, ◌∙◌, arith}
use Rattle.std.proofs.lemmas.Option.{same_Some}
use Rattle.acl_model.specs.declared.binding.MemberKey.{MemberKey}
use Rattle.acl_model.specs.declared.binding.Binding.{Binding}
use Rattle.acl_model.specs.SortKeys.{member_sort_key}
use Rattle.base_rows.specs.declared.edit.Edit.{Edit}
use Rattle.acl_buckets.specs.BindingBuckets.{edits_of_key}
use Rattle.acl_buckets.specs.BindingParts.{part_at}
use Rattle.acl_buckets.proofs.BindingPartLaws.{roomier_twice}
use Rattle.acl_buckets.proofs.KeysAdded.{of_another}
use Rattle.acl_buckets.proofs.EditLaws.{next_room, all_room}
use Rattle.acl_buckets.proofs.binding_parts.make_room.Goals as goal

pub loop-edit-preserved : goal.loop-edit-preserved
loop-edit-preserved c =
    let rows : c.rows-list.result.now ≡ c.args.edits.now.rows = c.rows-list.ensures.rows in
    let e : Edit Binding = c.edit-item.result in
    record {
      kept = roomier_twice _ _ _ c.loop-edit.invariant.kept c.reserve_key.ensures.kept;
      most = omega (arith, c.loop-edit.invariant.most, c.reserve_key.ensures.most);
      others = λ key none.
          c.reserve_key.ensures.others (member_sort_key key)
          (of_another key c.args.edits.now.rows c.loop-edit.edit-index c.edit-item.result
          (subst (λ (es : List (Edit Binding)). c.loop-edit.edit-index < length es) c.rows-list.ensures.rows c.loop-edit-test.true)
          (subst (λ (es : List (Edit Binding)). c.edit-item.result ≡ get_or es c.loop-edit.edit-index c.edit-item.result) c.rows-list.ensures.rows c.edit-item.is) none)
          ∙ c.loop-edit.invariant.others key none;
      each =
          next_room c.args.edits.now.rows c.loop-edit.buckets.items c.reserve_key.new.buckets.items c.loop-edit.edit-index e c.reserve_key.ensures.kept
          (subst (λ (es : List (Edit Binding)). c.loop-edit.edit-index < length es) rows c.loop-edit-test.true)
          (subst (λ (es : List (Edit Binding)). e ≡ get_or es c.loop-edit.edit-index e) rows c.edit-item.is)
          c.in_ok-reserve_key.ensures.ok c.loop-edit.invariant.each;
      last = λ k is. subst (λ (m : MemberKey). length (edits_of_key m c.args.edits.now.rows) ≤ (part_at (member_sort_key m) c.reserve_key.new.buckets.items).room) (same_Some e.row.key k is) c.in_ok-reserve_key.ensures.ok;
    }

pub returns-clause-ok : goal.returns-clause-ok
returns-clause-ok c =
    all_room c.args.edits.now.rows c.loop-edit.buckets.items c.loop-edit.edit-index
    (subst (λ (es : List (Edit Binding)). length es ≤ c.loop-edit.edit-index) c.rows-list.ensures.rows c.loop-edit-test.false)
    c.loop-edit.invariant.each

pub returns-in_err-reserve_key-clause-most : goal.returns-in_err-reserve_key-clause-most
returns-in_err-reserve_key-clause-most c = omega (arith, c.loop-edit.invariant.most, c.reserve_key.ensures.most, ap length c.rows-list.ensures.rows)

pub returns-clause-most : goal.returns-clause-most
returns-clause-most c = omega (arith, c.loop-edit.invariant.most, ap length c.rows-list.ensures.rows)

pub returns-in_err-reserve_key-clause-others : goal.returns-in_err-reserve_key-clause-others
returns-in_err-reserve_key-clause-others c = λ key none.
    c.reserve_key.ensures.others (member_sort_key key)
    (of_another key c.args.edits.now.rows c.loop-edit.edit-index c.edit-item.result
    (subst (λ (es : List (Edit Binding)). c.loop-edit.edit-index < length es) c.rows-list.ensures.rows c.loop-edit-test.true)
    (subst (λ (es : List (Edit Binding)). c.edit-item.result ≡ get_or es c.loop-edit.edit-index c.edit-item.result) c.rows-list.ensures.rows c.edit-item.is) none)
    ∙ c.loop-edit.invariant.others key none
