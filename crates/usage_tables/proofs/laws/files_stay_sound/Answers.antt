use Rattle.usage_tables.specs.FileCommands.{import_step, verdict_step, revoke_step}
use Rattle.usage_tables.proofs.SoundFiles.{sound-import_step, sound-verdict_step, sound-revoke_step}
use Rattle.usage_tables.proofs.SoundLaws.{stays}
use Rattle.usage_tables.proofs.laws.files_stay_sound.Goals as goal

pub returns-clause-imports : goal.returns-clause-imports
returns-clause-imports c files sound octets fetched early = stays (import_step octets fetched files) (sound-import_step files sound octets fetched early)

pub returns-clause-verdict : goal.returns-clause-verdict
returns-clause-verdict c files sound url digest v = stays (verdict_step url digest v files) (sound-verdict_step files sound url digest v)

pub returns-clause-revoke : goal.returns-clause-revoke
returns-clause-revoke c files sound url = stays (revoke_step url files) (sound-revoke_step files sound url)
