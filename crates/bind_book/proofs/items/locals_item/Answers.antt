use Rattle.std.proofs.Common.{◌≡◌, ◌++◌, List, length, ap, ◌∙◌, append_assoc}
use Rattle.std.specs.Prelude.{flat_map}
use Rattle.std.proofs.lemmas.List.{take_all}
use Rattle.mud_base.specs.declared.prefix.Prefix.{Prefix}
use Rattle.item_codec.specs.Spelling.{version, list}
use Rattle.item_codec.specs.Records.{elements, list_body}
use Rattle.table_model.specs.BindItems.{locals_item}
use Rattle.bind_book.proofs.items.locals_item.Goals as goal
use Rattle.table_model.proofs.Parts.{network}

pub returns : goal.returns
unfolding locals_item list_body elements
returns c =
    let locals : List Prefix = c.args.locals.now in
    let body : c.into_bytes.result ≡ list_body network locals =
    c.into_bytes.ensures ∙ c.loop-prefix.invariant
    ∙ ap (λ ps. version ++ list (length locals) ++ flat_map network ps) (take_all c.loop-prefix.prefix-index locals c.loop-prefix-test.false)
    ∙ append_assoc version (list (length locals)) (flat_map network locals) in
    λ i. record { kind = 4; key = c.empty.ensures i; body = body i }
