use Rattle.std.proofs.Common.{List, ℕ, sym, ap, ◌∙◌, arith}
use Rattle.base_rows.specs.Sortable.{RowsAndRoom}
use Rattle.base_rows.proofs.SortableLaws.{found_within}
use Rattle.acl_model.specs.declared.binding.Binding.{Binding}
use Rattle.acl_model.specs.SortKeys.{text_sort_key}
use Rattle.acl_buckets.specs.BindingParts.{bucket_sort_key}
use Rattle.acl_buckets.proofs.BindingPartLaws.{bucket_found, bucket_missed}
use Rattle.acl_buckets.proofs.binding_parts.bindings_at.Goals as goal

pub returns-in-Some : goal.returns-in-Some
returns-in-Some c =
    let t : List ℕ = text_sort_key c.args.key.kind c.args.key.text.now in
    let at = bucket_found t c.args.buckets.now c.in-Ok.index c.in-Some.bucket.now c.requires.bucketed (sym c.bucket_of.ensures ∙ c.in-Ok.is) c.in-Some.ensures.lookup.1 in
    ap (λ (p : RowsAndRoom Binding). p.rows) (sym at.part_is)

pub returns-in-None : goal.returns-in-None
returns-in-None c =
    let t : List ℕ = text_sort_key c.args.key.kind c.args.key.text.now in
    let within = found_within bucket_sort_key t c.args.buckets.now c.in-Ok.index (sym c.bucket_of.ensures ∙ c.in-Ok.is) in
    absurd (omega (arith, within, c.in-None.ensures.lookup.3))

pub returns-in-Err : goal.returns-in-Err
returns-in-Err c =
    let t : List ℕ = text_sort_key c.args.key.kind c.args.key.text.now in
    c.requires.none ∙ ap (λ (p : RowsAndRoom Binding). p.rows) (sym (bucket_missed t c.args.buckets.now c.in-Err.field-0 c.requires.bucketed (sym c.bucket_of.ensures ∙ c.in-Err.is)))
