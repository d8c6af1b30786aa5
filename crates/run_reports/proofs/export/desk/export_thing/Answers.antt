use Rattle.std.proofs.Common.{◌≡◌, ℕ, ◌<◌, Option, Some, ap, sym, ◌∙◌, arith}
use Rattle.run_common.specs.Status.{status_number}
use Rattle.mud_desk.specs.DeskState.{tables_of}
use Rattle.acl_rows.specs.Rows.{for_ever}
use Rattle.run_common.specs.Moments.{listing_moment}
use Rattle.run_reports.proofs.ExportLaws.Things.{wrote_empty, wrote_lists}
use Rattle.run_reports.proofs.export.desk.export_thing.Goals as goal

pub returns-then-held-clause-writes : goal.returns-then-held-clause-writes
returns-then-held-clause-writes g c = λ tells.
    let run = c.export_lists.ensures in
    wrote_empty (tables_of c.args.desk.now.state) c.args.mac c.args.clock (g.D.Door.view c.args.door.now).state (g.D.Door.view c.export_lists.new.door).state (status_number c.export_lists.result)
    (ap Some (sym c.if-held.true) ∙ c.requires) run.statuses (run.done tells) (run.part tells)

pub returns-clause-writes : goal.returns-clause-writes
returns-clause-writes g c = λ tells.
    let desk = tables_of c.args.desk.now.state in
    let run = c.export_lists-2.ensures in
    let moment : c.listing_moment-moment.result ≡ listing_moment desk.stamp (Some c.args.clock) = c.listing_moment-moment.ensures ∙ ap (λ (stamp : Option ℕ). listing_moment stamp (Some c.args.clock)) c.stamp.ensures in
    let small : c.listing_moment-moment.result < for_ever = omega arith in
    wrote_lists desk c.args.mac c.args.clock (g.D.Door.view c.args.door.now).state (g.D.Door.view c.export_lists-2.new.door).state (status_number c.export_lists-2.result)
    c.listing_moment-moment.result moment small c.sources_of-sources.result
    (ap Some (sym c.if-held.false) ∙ c.requires) c.sources_of-sources.ensures run.statuses (run.done tells) (run.part tells)
