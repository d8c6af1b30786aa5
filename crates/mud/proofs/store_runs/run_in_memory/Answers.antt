use Rattle.std.proofs.Common.{subst}
use Rattle.mud_world.specs.MemoryKeeper.{IsNew}
use Rattle.mud.proofs.store_runs.run_in_memory.Goals as goal

pub returns-clause-runs : goal.returns-clause-runs
returns-clause-runs g c =
    let run = c.mud_main.ensures in
    record {
      first = c.new-keeper.result;
      empty = subst (λ items. IsNew items c.new-keeper.result) c.new.ensures c.new-keeper.ensures;
      does = record { untouched = run.untouched; does = run.does; alone = run.alone; left = run.left; reads = run.reads };
    }
