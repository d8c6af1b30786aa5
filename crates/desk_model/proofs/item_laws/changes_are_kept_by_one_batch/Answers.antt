use Rattle.desk_model.proofs.Batches.{things_kept, files_kept, binds_kept}
use Rattle.desk_model.proofs.item_laws.changes_are_kept_by_one_batch.Goals as goal

pub returns-clause-things : goal.returns-clause-things
returns-clause-things c desk things now puts = things_kept desk now things puts

pub returns-clause-files : goal.returns-clause-files
returns-clause-files c desk files now puts = files_kept desk now files puts

pub returns-clause-binds : goal.returns-clause-binds
returns-clause-binds c desk binds now puts = binds_kept desk now binds puts
