use Rattle.std.proofs.Common.{◌≡◌, ◌++◌, length, ap, ◌∙◌, append_assoc}
use Rattle.std.specs.Prelude.{flat_map}
use Rattle.std.proofs.lemmas.List.{take_all}
use Rattle.item_codec.specs.Spelling.{version, list}
use Rattle.item_codec.specs.Records.{elements, list_body}
use Rattle.table_model.specs.Expiries.{Expiries}
use Rattle.table_model.specs.ItemFields.{expiring}
use Rattle.table_model.specs.BindItems.{name_item}
use Rattle.bind_book.proofs.items.name_item.Goals as goal

pub returns : goal.returns
unfolding name_item list_body elements
returns c =
    let addrs : Expiries = c.args.row.now.addrs in
    let body : c.into_bytes.result ≡ list_body expiring addrs =
    c.into_bytes.ensures ∙ c.loop-kept.invariant
    ∙ ap (λ rows. version ++ list (length c.as_slice-addrs.result.now) ++ flat_map expiring rows) (take_all c.loop-kept.kept-index c.as_slice-addrs.result.now c.loop-kept-test.false)
    ∙ ap (λ rows. version ++ list (length rows) ++ flat_map expiring rows) c.as_slice-addrs.ensures
    ∙ append_assoc version (list (length addrs)) (flat_map expiring addrs) in
    λ i. record { kind = 5; key = c.in_ok-key.ensures i; body = body i }
