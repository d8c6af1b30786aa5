use Rattle.file_cache.proofs.TakeLaws.{approved_held}
use Rattle.file_cache.proofs.take.approved_url.Goals as goal

pub url_of-requires : goal.url_of-requires
url_of-requires c = approved_held c.args.url.now c.args.held.now c.args.approval c.requires
