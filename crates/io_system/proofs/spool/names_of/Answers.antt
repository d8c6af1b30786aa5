use Rattle.std.proofs.Common.{rules}
use Rattle.io_system.proofs.Folders.{names-after, passed-push, stops-behind}
use Rattle.io_system.proofs.spool.names_of.Goals as goal

pub entries-preserved : goal.entries-preserved
entries-preserved g c = (
  names-after c.entries.yielded c.in-Some.entry _ _ c.entries.invariant.0 c.in_ok-add_name.ensures.names,
  passed-push c.entries.yielded c.in-Some.entry c.entries.invariant.1 c.in_ok-add_name.ensures.passed,
)

pub returns-in_err-add_name-clause-stopped : goal.returns-in_err-add_name-clause-stopped
returns-in_err-add_name-clause-stopped g c =
    let stopped = stops-behind g.I.Iterator.next_gives _ c.entries.yielded _ c.in-Some.entry _ _
    c.entries.yielded_by c.in-Some.ensures.steps c.entries.invariant.1 c.in_err-add_name.ensures.stopped in
    search rules
