use Rattle.std.proofs.Common.{List, [], ◌∷◌, ◌++◌, map, ap, ◌∙◌}
use Rattle.std.specs.Prelude.{option_map}
use Rattle.base_rows.specs.Changes.{with_found}
use Rattle.mud_world.specs.declared.item.Item.{Item}
use Rattle.mud_world.specs.declared.item.Put.{Put}
use Rattle.mud_world.specs.declared.item.Put.TheVariants.{Set}
use Rattle.mud_world.specs.Items.{gone_put, set_put, puts_of}
use Rattle.table_model.specs.BindItems.{name_item}
use Rattle.bind_book.proofs.SoFar.{push_behind, all_behind, found_before}
use Rattle.bind_book.proofs.items.name_puts.Goals as goal

pub loop-row-preserved : goal.loop-row-preserved
unfolding set_put
loop-row-preserved c =
    let front : List Put = with_found (option_map (gone_put 5) c.args.change.now.gone) [] in
    c.in_ok-push.ensures.ok
    ∙ ap (λ (item : Item). c.loop-row.puts ++ Set item ∷ []) c.in_ok-name_item.ensures
    ∙ push_behind (set_put name_item) front c.loop-row.puts c.sets-row-items.result.now c.loop-row.row-index c.row-item.result c.loop-row-test.true c.row-item.is c.loop-row.invariant

pub returns : goal.returns
unfolding puts_of
returns c =
    let gone = option_map (gone_put 5) c.args.change.now.gone in
    all_behind (set_put name_item) (with_found gone []) c.loop-row.puts c.sets-row-items.result.now c.loop-row.row-index c.loop-row-test.false c.loop-row.invariant
    ∙ ap (λ sets. with_found gone [] ++ map (set_put name_item) sets) c.sets-row-items.ensures
    ∙ found_before gone [] (map (set_put name_item) c.args.change.now.sets)
