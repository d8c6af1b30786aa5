use Rattle.std.proofs.Common.{List, sym, subst, OnErr}
use Rattle.std.specs.Prelude.{flat_map}
use Rattle.run_common.specs.Output.{WroteFirst}
use Rattle.rule_export.specs.declared.item.Resolved.{Resolved}
use Rattle.text_values.specs.Lists.{behind_comma, with_commas}
use Rattle.rule_export.specs.Text.{resolved_text, items_text}
use Rattle.run_common.proofs.Written.{part_of_second}
use Rattle.run_reports.proofs.ExportLaws.Results.{err_then}
use Rattle.run_reports.proofs.export.writing.write_items.Goals as goal

pub returns-clause-part : goal.returns-clause-part
unfolding with_commas
returns-clause-part g c = λ tells.
    let view = c.args.view.now in
    let family = c.args.family in
    let old = (g.D.Door.view c.args.door.now).state in
    let now = (g.D.Door.view c.write_item.new.door).state in
    let after = (g.D.Door.view c.write_later.new.door).state in
    subst (λ (items : List Resolved). OnErr c.write_later.result (WroteFirst (items_text view family items) old after)) (sym c.in-Some.ensures.cases.0)
    (err_then c.write_later.result (c.write_later.ensures.part tells)
    (part_of_second (resolved_text view family c.in-Some.first.now) (flat_map (behind_comma (resolved_text view family)) c.in-Some.later.now) old now after (c.in_ok-write_item.ensures.ok tells)))
