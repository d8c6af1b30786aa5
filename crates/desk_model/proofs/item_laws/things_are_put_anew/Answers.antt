use Rattle.desk_model.proofs.Anew.{put_anew, newer_same, read_anew}
use Rattle.desk_model.proofs.item_laws.things_are_put_anew.Goals as goal

pub returns-clause-put : goal.returns-clause-put
returns-clause-put c = put_anew

pub returns-clause-newer : goal.returns-clause-newer
returns-clause-newer c item rest octets two = newer_same item octets rest two

pub returns-clause-read : goal.returns-clause-read
returns-clause-read c = read_anew
