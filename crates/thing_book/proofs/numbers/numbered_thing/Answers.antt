use Rattle.std.proofs.Common.{slice_get, sym, ap, ◌∙◌}
use Rattle.table_model.specs.Things.{thing_at}
use Rattle.thing_book.proofs.NumberLaws.{rising, found, absent, lent}
use Rattle.thing_book.proofs.numbers.numbered_thing.Goals as goal

pub find-requires : goal.find-requires
find-requires c = rising c.args.things.now.rows c.args.numbers.now c.requires c.rows-rows.ensures.ascend

pub returns-in-Some : goal.returns-in-Some
unfolding thing_at
returns-in-Some c =
    lent c.rows-rows.result.now c.in-Some.index c.get.result c.get.ensures.lookup
    ∙ ap (λ rows. slice_get rows c.in-Some.index) c.rows-rows.ensures.rows
    ∙ sym (found c.args.mac.now c.is_mac.ensures c.args.things.now.rows c.args.numbers.now c.requires c.rows-rows.ensures.ascend c.in-Some.index c.in-Some.ensures.found.0 c.in-Some.ensures.found.1)

pub returns-in-None : goal.returns-in-None
unfolding thing_at
returns-in-None c = sym (absent c.args.mac.now c.args.things.now.rows c.args.numbers.now c.requires c.in-None.ensures.none)
