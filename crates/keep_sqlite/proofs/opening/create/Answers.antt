use Rattle.keep_sqlite.proofs.Crashes.{survives_as}
use Rattle.keep_sqlite.proofs.Creates.{creates, creates_trees}
use Rattle.keep_sqlite.proofs.Readings.{executed_stays}
use Rattle.keep_sqlite.proofs.opening.create.Goals as goal
use Rattle.base_rows.proofs.Results.{always_on_err}

pub returns-clause-ok : goal.returns-clause-ok
returns-clause-ok g c clean = (creates _ _ _ c.requires.blank c.requires.autocommit (c.in_ok-execute.ensures.runs clean)).0

pub returns-clause-made : goal.returns-clause-made
returns-clause-made g c clean =
    let made = creates _ _ _ c.requires.blank c.requires.autocommit (c.in_ok-execute.ensures.runs clean) in
    (made.1, made.2)

pub returns-clause-crash : goal.returns-clause-crash
returns-clause-crash g c = survives_as _ _ (λ _ db commits. (c.requires.blank, creates_trees _ db c.requires.blank commits)) c.execute.ensures.survives

pub returns-in_err-execute-clause-err : goal.returns-in_err-execute-clause-err
returns-in_err-execute-clause-err g c clean = always_on_err _ (executed_stays _ _ _ _ _ (c.in_err-execute.ensures.runs clean))

pub returns-in_err-execute-clause-crash : goal.returns-in_err-execute-clause-crash
returns-in_err-execute-clause-crash g c = survives_as _ _ (λ _ db commits. (c.requires.blank, creates_trees _ db c.requires.blank commits)) c.execute.ensures.survives
