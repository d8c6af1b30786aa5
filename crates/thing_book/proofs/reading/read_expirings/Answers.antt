use Rattle.std.proofs.Common.{◌-◌, ◌∙◌, sym, ap, arith}
use Rattle.std.specs.Option.{option_map}
use Rattle.item_codec.specs.Records.{each_in}
use Rattle.table_model.specs.ItemFields.{expiring_in}
use Rattle.thing_book.proofs.Readings.{behind, first_behind, last_behind, row_behind, none_behind}
use Rattle.thing_book.proofs.reading.read_expirings.Goals as goal

pub loop-left-init : goal.loop-left-init
loop-left-init c =
    let all = each_in expiring_in c.args.count c.args.reader.now in
    first_behind all ∙ ap (λ rows. option_map (behind rows) all) (sym c.new-rows.ensures)

pub returns-in_default : goal.returns-in_default
returns-in_default c =
    let n = c.loop-left.left - 1 in
    c.loop-left.invariant ∙ none_behind c.loop-left.left n c.loop-left.reader c.loop-left.rows (omega arith) c.in_default.ensures

pub loop-left-preserved : goal.loop-left-preserved
loop-left-preserved c =
    let n = c.loop-left.left - 1 in
    c.loop-left.invariant
    ∙ row_behind c.loop-left.left n c.loop-left.reader c.read_expiring.new.reader c.loop-left.rows c.in-Some.row (omega arith) c.in-Some.ensures
    ∙ ap (λ rows. option_map (behind rows) (each_in expiring_in n c.read_expiring.new.reader)) (sym c.in_ok-push.ensures.ok)

pub returns : goal.returns
returns c = last_behind c.args.count c.loop-left.left c.args.reader.now c.loop-left.reader c.loop-left.rows c.loop-left.invariant (omega arith)
