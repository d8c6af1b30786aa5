use Rattle.usage_tables.proofs.ReadFiles.{sound-push, behind-sound}
use Rattle.usage_tables.proofs.item_laws.files_are_read_sound.Goals as goal

pub returns-clause-push : goal.returns-clause-push
returns-clause-push c = sound-push

pub returns-clause-behind : goal.returns-clause-behind
returns-clause-behind c = behind-sound
