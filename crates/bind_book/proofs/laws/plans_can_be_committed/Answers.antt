use Rattle.bind_book.proofs.Plans.{commits, commits_to}
use Rattle.bind_book.proofs.laws.plans_can_be_committed.Goals as goal

pub returns-clause-can : goal.returns-clause-can
returns-clause-can c = commits

pub returns-clause-leads : goal.returns-clause-leads
returns-clause-leads c = commits_to
