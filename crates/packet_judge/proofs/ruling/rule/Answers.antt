use Rattle.std.proofs.Common.{◌<◌, List, ap, ◌∙◌, arith}
use Rattle.mud_base.specs.declared.packet.Fields.{Fields}
use Rattle.mud_base.specs.declared.prefix.Prefix.{Prefix}
use Rattle.table_model.specs.Expiries.{for_ever}
use Rattle.table_model.specs.Bindings.{bindings_of, ruling_by_bindings}
use Rattle.packet_judge.specs.ByRows.{Asked, asked, ruling_by_rows}
use Rattle.table_laws.proofs.Stores.{tests_alike}
use Rattle.packet_judge.proofs.OverTables.{over_tables}
use Rattle.packet_judge.proofs.ByRows.{rows_alike}
use Rattle.packet_judge.proofs.ruling.rule.Goals as goal

pub returns-clause-rules : goal.returns-clause-rules
returns-clause-rules g c = λ slots bindings url policy side is.
    let small : c.args.now < for_ever = omega (arith, c.seconds-seconds.ensures.value, c.seconds-seconds.ensures.range) in
    c.rule_by_rows.ensures.value
    ∙ ap (λ (q : Asked). ruling_by_rows q c.args.view) (c.new-question.ensures ∙ ap (λ (f : Fields). asked c.args.locals.now c.args.now f c.args.begun) c.fields.ensures)
    ∙ rows_alike slots bindings url policy side c.args.view (asked c.args.locals.now c.args.now c.args.packet.now.fields c.args.begun) is small

pub returns-clause-tables : goal.returns-clause-tables
returns-clause-tables g c = λ slots bindings tables url policy side is same locals.
    let small : c.args.now < for_ever = omega (arith, c.seconds-seconds.ensures.value, c.seconds-seconds.ensures.range) in
    returns-clause-rules g c slots bindings url policy side is
    ∙ ap (λ (ps : List Prefix). ruling_by_bindings bindings ps c.args.now url policy side c.args.packet.now.fields c.args.begun) locals
    ∙ over_tables tables bindings (tests_alike bindings (bindings_of tables) same) c.args.now url policy side c.args.packet.now.fields c.args.begun small
