use Rattle.std.proofs.Common.{sym, ◌∙◌}
use Rattle.mud_desk.proofs.Numbered.{none_numbered, numbered_in}
use Rattle.mud_desk.proofs.findings.numbered_entry.Goals as goal

pub returns-in-None : goal.returns-in-None
returns-in-None c =
    let k = c.args.compiled.now in
    none_numbered k.slots k.rows c.args.url.now c.args.side c.view-view.result c.view-view.ensures.view c.args.number (sym c.in-None.is ∙ c.file_part.ensures)

pub returns-in-Some : goal.returns-in-Some
returns-in-Some c =
    let k = c.args.compiled.now in
    c.entry_in.ensures
    ∙ numbered_in k.slots k.rows c.args.url.now c.args.side c.view-view.result c.view-view.ensures.view c.args.number c.in-Some.part (sym c.in-Some.is ∙ c.file_part.ensures)
