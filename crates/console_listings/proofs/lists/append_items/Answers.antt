use Rattle.std.proofs.Common.{◌++◌, ◌∙◌, List, ℕ, take, ap}
use Rattle.text_values.specs.Lists.{with_commas}
use Rattle.console_listings.specs.Lists.{element_text}
use Rattle.console_listings.proofs.Elements.{items_next}
use Rattle.console_listings.proofs.lists.append_items.Goals as goal
use Rattle.text_values.proofs.Parts.{behind_both}

pub rows-preserved : goal.rows-preserved
rows-preserved g c =
    let text = g.T.JsonRow.text in
    let rows = c.args.rows.now in
    let row = c.index-rows-index.result in
    behind_both c.args.body.now (with_commas text (take c.rows.index rows)) (element_text text c.rows.index row) c.rows.body c.append_element.new.body c.rows.invariant c.in_ok-append_element.ensures
    ∙ ap (λ (x : List ℕ). c.args.body.now ++ x) (items_next text rows c.rows.index row c.rows-test.true c.index-rows-index.is)
