use Rattle.mud.proofs.store_runs.run_opened.Goals as goal

pub returns-clause-runs : goal.returns-clause-runs
returns-clause-runs g c =
    let run = c.mud_main.ensures in
    record { untouched = run.untouched; does = run.does; alone = run.alone; left = run.left; reads = run.reads }
