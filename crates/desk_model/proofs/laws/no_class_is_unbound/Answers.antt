use Rattle.desk_model.proofs.SoundClasses.{unbind_no_class}
use Rattle.desk_model.proofs.laws.no_class_is_unbound.Goals as goal

pub returns : goal.returns
returns c = unbind_no_class
