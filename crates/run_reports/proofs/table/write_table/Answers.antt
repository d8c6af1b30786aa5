use Rattle.std.proofs.Common.{◌≡◌, ℕ, List, Option, OnOk, OnErr, ap, subst, ◌∙◌}
use Rattle.mud_world.specs.Door.{put_out}
use Rattle.mud_desk.specs.DeskState.{tables_of}
use Rattle.run_common.specs.Output.{WroteFirst}
use Rattle.run_common.specs.Moments.{listing_moment}
use Rattle.run_reports.proofs.Dues.{due_table}
use Rattle.run_reports.proofs.table.write_table.Goals as goal

pub returns-in-Due-clause-ok : goal.returns-in-Due-clause-ok
returns-in-Due-clause-ok g c = λ tells.
    let old = (g.D.Door.view c.args.door.now).state in
    let new = (g.D.Door.view c.write_due.new.door).state in
    subst (λ (text : List ℕ). OnOk c.write_due.result (new ≡ put_out text old))
    (due_table c.args.kind c.args.clock (tables_of c.args.desk.now.state) c.listing_moment.result c.files-in-Due.result.now c.in-Due.is
    (c.listing_moment.ensures ∙ ap (λ (stamp : Option ℕ). listing_moment stamp c.args.clock) c.stamp.ensures) c.files-in-Due.ensures)
    (c.write_due.ensures.ok tells)

pub returns-in-Due-clause-part : goal.returns-in-Due-clause-part
returns-in-Due-clause-part g c = λ tells.
    let old = (g.D.Door.view c.args.door.now).state in
    let new = (g.D.Door.view c.write_due.new.door).state in
    subst (λ (text : List ℕ). OnErr c.write_due.result (WroteFirst text old new))
    (due_table c.args.kind c.args.clock (tables_of c.args.desk.now.state) c.listing_moment.result c.files-in-Due.result.now c.in-Due.is
    (c.listing_moment.ensures ∙ ap (λ (stamp : Option ℕ). listing_moment stamp c.args.clock) c.stamp.ensures) c.files-in-Due.ensures)
    (c.write_due.ensures.part tells)
