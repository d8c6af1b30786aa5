use Rattle.acl_model.proofs.FirstRuling.{first_match_decides}
use Rattle.acl_model.proofs.first_match.first_match_decides.Goals as goal

pub returns : goal.returns
returns c = first_match_decides
