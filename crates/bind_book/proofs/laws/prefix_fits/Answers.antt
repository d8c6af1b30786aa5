use Rattle.table_model.proofs.TypeFacts.{kept_network}
use Rattle.bind_book.proofs.laws.prefix_fits.Goals as goal

pub returns : goal.returns
returns c = kept_network c.args.prefix.now c.addr.result c.len-len.result c.addr.ensures.value c.addr.ensures.cleared c.len-len.ensures.value c.len-len.ensures.within c.addr_fits.ensures
