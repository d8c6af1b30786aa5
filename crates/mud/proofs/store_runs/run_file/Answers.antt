use Rattle.mud.proofs.store_runs.run_file.Goals as goal

pub returns-clause-runs : goal.returns-clause-runs
returns-clause-runs g c = record {
  first = c.open_file-keeper.result;
  opened = c.open_file-keeper.ensures.opened;
  fresh = c.open_file-keeper.ensures.faults;
  does = c.run_opened.ensures.runs;
}
