use Rattle.mud_url.proofs.Written.{host_of-canonical}
use Rattle.mud_url.proofs.laws.canonical_keeps_host.Goals as goal

pub returns : goal.returns
returns c = host_of-canonical c.args.url.now
