use Rattle.std.proofs.Common.{◌≡◌, ◌<◌, List, Some, length, sym, ap, ◌∙◌}
use Rattle.std.specs.Prelude.{slice_get}
use Rattle.std.specs.Option.{option_map}
use Rattle.std.proofs.lemmas.Result.{IfOk-weaker}
use Rattle.std.proofs.lemmas.Option.{slice_get-map, slice_get-get_or}
use Rattle.mud_world.specs.declared.item.Item.{Item}
use Rattle.table_model.specs.declared.thing.Thing.{Thing}
use Rattle.table_model.specs.ThingItems.{thing_item, thing_items}
use Rattle.thing_book.specs.Planned.{Things}
use Rattle.thing_book.proofs.book.ThingBook.item_of.Goals as goal

pub returns : goal.returns
unfolding thing_items
returns c =
    let things : List Thing = c.args.self.now.things in
    let thing : Thing = c.index-rows-index.result in
    let same : c.rows.result.now ≡ things = c.rows.ensures.rows ∙ ap (λ (b : Things). b.things) c.self.view_is in
    let within : c.args.index < length c.rows.result.now = rw (ap length same) c.requires in
    let at : slice_get things c.args.index ≡ Some thing =
    ap (λ ts. slice_get ts c.args.index) (sym same) ∙ slice_get-get_or c.rows.result.now c.args.index thing within ∙ ap Some (sym c.index-rows-index.is) in
    IfOk-weaker c.item_of.result (λ item. item ≡ thing_item thing) (λ (item : Item). slice_get (thing_items things) c.args.index ≡ Some item)
    (λ item e. slice_get-map thing_item things c.args.index ∙ ap (option_map thing_item) at ∙ ap Some (sym e)) c.item_of.ensures
