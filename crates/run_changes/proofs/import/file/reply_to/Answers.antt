use Rattle.std.proofs.Common.{ap, sym, ◌∙◌}
use Rattle.run_changes.specs.Import.Entries.{is_of_memory}
use Rattle.run_changes.proofs.ImportLaws.Folders.{said_status}
use Rattle.run_changes.proofs.ImportLaws.Leads.{leads_on, same_history, still_wanted}
use Rattle.run_changes.proofs.import.file.reply_to.Goals as goal

pub returns-clause-leads : goal.returns-clause-leads
returns-clause-leads g c = λ p k.
    leads_on (g.P.Spool.view c.args.spool.now).files c.args.name.now c.in_ok-octets.octets c.in-Some.fetched c.now-now.result c.in_ok-reply.reply c.execute.result
    c.args.desk.now.state c.execute.new.self.state (g.C.Clock.moments c.args.clock.now) (g.C.Clock.moments c.now-now.new.self)
    (sym c.in-Some.ensures) (c.in_ok-octets.ensures.octets p) (c.now-now.ensures.moment k) (c.now-now.ensures.later k)
    c.in_ok-reply.ensures.ok.0 c.in_ok-reply.ensures.ok.1 c.execute.ensures.answer

pub returns-clause-statuses : goal.returns-clause-statuses
returns-clause-statuses g c = said_status c.in_ok-reply.reply (ap is_of_memory c.in_ok-reply.ensures.ok.0 ∙ c.in_ok-reply.ensures.ok.1)

pub returns-clause-history : goal.returns-clause-history
returns-clause-history g c = same_history c.args.desk.now.state c.execute.new.self.state _ _ _ c.execute.ensures.answer

pub returns-in_err-reply-clause-history : goal.returns-in_err-reply-clause-history
returns-in_err-reply-clause-history g c = same_history c.args.desk.now.state c.execute.new.self.state _ _ _ c.execute.ensures.answer

pub returns-in_err-reply-clause-still : goal.returns-in_err-reply-clause-still
returns-in_err-reply-clause-still g c = still_wanted c.from_residual-in_err-reply.result _ _ _ _ _ c.execute.ensures.answer c.in_err-reply.ensures.err
