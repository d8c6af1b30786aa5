use Rattle.mud_base.proofs.MacCase.{one_text}
use Rattle.mud_base.proofs.laws.mac_has_one_text.Goals as goal

pub returns : goal.returns
returns c = one_text c.args.text.now
