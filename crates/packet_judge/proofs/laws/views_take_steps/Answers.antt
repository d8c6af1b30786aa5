use Rattle.packet_judge.proofs.ViewSteps.{fits, least, most}
use Rattle.packet_judge.proofs.laws.views_take_steps.Goals as goal

pub returns-clause-fits : goal.returns-clause-fits
returns-clause-fits c = fits

pub returns-clause-least : goal.returns-clause-least
returns-clause-least c = least

pub returns-clause-most : goal.returns-clause-most
returns-clause-most c = most
