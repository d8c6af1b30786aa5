use Rattle.std.proofs.Common.{List, ℕ, length, ap, ◌∙◌, arith}
use Rattle.std.proofs.lemmas.Result.{on_ok_weaker}
use Rattle.acl_model.specs.SortKeys.{text_sort_key}
use Rattle.acl_buckets.proofs.BindingPartLaws.{roomier_itself, key_is}
use Rattle.acl_buckets.proofs.EditLaws.{counted_key}
use Rattle.acl_buckets.proofs.binding_parts.reserve_key.Goals as goal

pub returns-then-is_last-clause-kept : goal.returns-then-is_last-clause-kept
returns-then-is_last-clause-kept c = roomier_itself c.args.buckets.now.items c.requires.bucketed

pub returns-then-is_last-clause-ok : goal.returns-then-is_last-clause-ok
returns-then-is_last-clause-ok c = c.requires.done c.args.key.now (c.is_last.ensures c.if-is_last.true)

pub returns-clause-ok : goal.returns-clause-ok
returns-clause-ok c =
    let t : List ℕ = text_sort_key c.key_text.result.kind c.key_text.result.text.now in
    let count =
    ap length c.rows_under-more.ensures
    ∙ counted_key c.args.edits.now.rows c.args.key.now t (key_is c.args.key.now c.key_text.result.kind c.key_text.result.text.now c.key_text.ensures.kind c.key_text.ensures.text) in
    on_ok_weaker c.reserve_bucket.result (λ few. omega (arith, few, count)) c.reserve_bucket.ensures.ok
