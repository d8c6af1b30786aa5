use Rattle.std.proofs.Common.{◌++◌}
use Rattle.rule_export.specs.Text.{items_text}
use Rattle.run_common.proofs.Written.{on_err, then_wrote, part_of_first, part_of_second}
use Rattle.run_reports.proofs.ExportLaws.Results.{ok_then, err_then}
use Rattle.run_reports.proofs.export.writing.write_between.Goals as goal

pub returns-in_err-write_text-clause-part : goal.returns-in_err-write_text-clause-part
returns-in_err-write_text-clause-part g c = λ tells.
    let view = g.D.Door.view in
    let items = items_text c.args.view.now c.args.family c.args.items.now in
    on_err c.from_residual.result
    (part_of_first c.args.front.now (items ++ c.args.back.now) (view c.args.door.now).state (view c.write_text.new.door).state (c.in_err-write_text.ensures.part tells))

pub returns-in_err-write_items-clause-part : goal.returns-in_err-write_items-clause-part
returns-in_err-write_items-clause-part g c = λ tells.
    let view = g.D.Door.view in
    let items = items_text c.args.view.now c.args.family c.args.items.now in
    let back = c.args.back.now in
    on_err c.from_residual-in_err-write_items.result
    (part_of_second c.args.front.now (items ++ back) (view c.args.door.now).state (view c.write_text.new.door).state (view c.write_items.new.door).state (c.in_ok-write_text.ensures.ok tells)
    (part_of_first items back (view c.write_text.new.door).state (view c.write_items.new.door).state (c.in_err-write_items.ensures.part tells)))

pub returns-clause-ok : goal.returns-clause-ok
returns-clause-ok g c = λ tells.
    let view = g.D.Door.view in
    let items = items_text c.args.view.now c.args.family c.args.items.now in
    let back = c.args.back.now in
    let one = (view c.write_text.new.door).state in
    let two = (view c.write_items.new.door).state in
    let three = (view c.write_text-2.new.door).state in
    ok_then c.write_text-2.result (c.write_text-2.ensures.ok tells)
    (λ wrote. then_wrote c.args.front.now (items ++ back) (view c.args.door.now).state one three (c.in_ok-write_text.ensures.ok tells)
    (then_wrote items back one two three (c.in_ok-write_items.ensures.ok tells) wrote))

pub returns-clause-part : goal.returns-clause-part
returns-clause-part g c = λ tells.
    let view = g.D.Door.view in
    let items = items_text c.args.view.now c.args.family c.args.items.now in
    let back = c.args.back.now in
    let one = (view c.write_text.new.door).state in
    let two = (view c.write_items.new.door).state in
    let three = (view c.write_text-2.new.door).state in
    err_then c.write_text-2.result (c.write_text-2.ensures.part tells)
    (λ part. part_of_second c.args.front.now (items ++ back) (view c.args.door.now).state one three (c.in_ok-write_text.ensures.ok tells)
    (part_of_second items back one two three (c.in_ok-write_items.ensures.ok tells) part))
