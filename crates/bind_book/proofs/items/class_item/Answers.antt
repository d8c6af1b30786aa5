use Rattle.std.proofs.Common.{◌≡◌, ◌++◌, List, length, ap, ◌∙◌, append_assoc}
use Rattle.std.specs.Prelude.{flat_map}
use Rattle.std.proofs.lemmas.List.{take_all}
use Rattle.mud_base.specs.declared.addr.Addr.{Addr}
use Rattle.item_codec.specs.Spelling.{version, list}
use Rattle.item_codec.specs.Records.{elements, list_body}
use Rattle.table_model.specs.ItemFields.{address}
use Rattle.table_model.specs.Binds.{class_key}
use Rattle.table_model.specs.BindItems.{class_item}
use Rattle.bind_book.proofs.items.class_item.Goals as goal

pub returns : goal.returns
unfolding class_item class_key list_body elements
returns c =
    let addrs : List Addr = c.args.row.now.addrs in
    let body : c.into_bytes.result ≡ list_body address addrs =
    c.into_bytes.ensures ∙ c.loop-addr.invariant
    ∙ ap (λ bs. version ++ list (length c.as_slice-addrs.result.now) ++ flat_map address bs) (take_all c.loop-addr.addr-index c.as_slice-addrs.result.now c.loop-addr-test.false)
    ∙ ap (λ bs. version ++ list (length bs) ++ flat_map address bs) c.as_slice-addrs.ensures
    ∙ append_assoc version (list (length addrs)) (flat_map address addrs) in
    λ i. record { kind = 3; key = c.in_ok-key.ensures i; body = body i }
