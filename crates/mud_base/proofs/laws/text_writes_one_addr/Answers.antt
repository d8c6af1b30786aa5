use Rattle.mud_base.proofs.AddrTexts.{addr_in-text}
use Rattle.mud_base.proofs.laws.text_writes_one_addr.Goals as goal

pub returns : goal.returns
returns c addr spells = addr_in-text c.args.text.now addr spells
