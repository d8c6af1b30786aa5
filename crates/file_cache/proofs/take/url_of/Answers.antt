use Rattle.file_cache.proofs.TakeLaws.{own_url}
use Rattle.file_cache.proofs.take.url_of.Goals as goal

pub returns : goal.returns
returns c = own_url c.args.url.now c.args.held.now c.file.result.now c.requires c.file.ensures
