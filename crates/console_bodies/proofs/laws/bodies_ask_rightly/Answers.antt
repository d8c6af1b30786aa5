use Rattle.console_bodies.proofs.Rightly.{bodies_ask_rightly}
use Rattle.console_bodies.proofs.laws.bodies_ask_rightly.Goals as goal

pub returns : goal.returns
returns c = bodies_ask_rightly
