use Rattle.std.proofs.Common.{◌-◌, List, length, sym, ap, ◌∙◌}
use Rattle.std.specs.List.{slice_get}
use Rattle.std.proofs.lemmas.Result.{on_ok_weaker}
use Rattle.base_rows.specs.declared.edit.Edit.{Edit}
use Rattle.acl_rows.specs.declared.row.Row.{Row}
use Rattle.acl_buckets.proofs.Forgotten.{same_itself}
use Rattle.acl_buckets.proofs.RoomLaws.{kept_itself, no_buckets, buckets_all}
use Rattle.acl_buckets.proofs.row_parts.add_for.Goals as goal

pub returns-in-None-clause-kept : goal.returns-in-None-clause-kept
returns-in-None-clause-kept c = kept_itself c.args.buckets.now.items c.requires

pub returns-in-None-clause-ok : goal.returns-in-None-clause-ok
returns-in-None-clause-ok c = no_buckets c.args.edits.now.rows _ (ap (λ (es : List (Edit Row)). slice_get es (length es - 1)) (sym c.rows.ensures.rows) ∙ sym c.in-None.ensures.value)

pub returns-in-Some-clause-ok : goal.returns-in-Some-clause-ok
returns-in-Some-clause-ok c =
    on_ok_weaker c.add_buckets.result (buckets_all c.args.edits.now.rows c.rows.result.now c.in-Some.last.now c.number_of.result _ c.rows.ensures.rows c.rows.ensures.ascend (sym c.in-Some.ensures.value) c.number_of.ensures.number) c.add_buckets.ensures.ok

pub returns-in-None-clause-same : goal.returns-in-None-clause-same
returns-in-None-clause-same c = same_itself c.args.buckets.now.items
