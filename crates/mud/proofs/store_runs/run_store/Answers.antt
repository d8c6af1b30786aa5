use Rattle.mud.proofs.Parts.{if_some_any}
use Rattle.mud.proofs.store_runs.run_store.Goals as goal

pub returns-in-Some-clause-file : goal.returns-in-Some-clause-file
returns-in-Some-clause-file g c =
    let run = c.run_file-status in
    let begins = run.ensures.runs in
    if_some_any c.args.path (record {
      first = begins.first;
      opened = begins.opened;
      fresh = begins.fresh;
      does = record { last = run.result.1; runs = begins.does };
    })

pub returns-in-None-clause-memory : goal.returns-in-None-clause-memory
returns-in-None-clause-memory g c none =
    let run = c.run_in_memory-status in
    let begins = run.ensures.runs in
    record { first = begins.first; empty = begins.empty; does = record { last = run.result.1; runs = begins.does } }
