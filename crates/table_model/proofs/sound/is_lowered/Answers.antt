use Rattle.std.proofs.Common.{◌∙◌}
use Rattle.table_model.proofs.SoundLaws.{lowered_alike}
use Rattle.table_model.proofs.sound.is_lowered.Goals as goal

pub returns : goal.returns
returns c = c.each_lowered.ensures ∙ lowered_alike c.args.text.now
