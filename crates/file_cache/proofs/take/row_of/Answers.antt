use Rattle.file_cache.proofs.TakeLaws.{no_files}
use Rattle.file_cache.proofs.take.row_of.Goals as goal

pub returns-in-None-candidate-2 : goal.returns-in-None-candidate-2
returns-in-None-candidate-2 c = rw (c.in-None.is, c.in-None-candidate-2.is) (no_files c.args.url.now)
