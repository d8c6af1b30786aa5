-- What the laws on steps say, from what holds of each case.
use Rattle.std.proofs.Common.{Ok, Err}
use Rattle.std.specs.Prelude.{IfOk}
use Rattle.usage_tables.specs.Files.{IsSoundFiles}
use Rattle.usage_tables.specs.FileCommands.{FileStep}
use Rattle.usage_tables.proofs.SoundFiles.{OfAfter}

pub stays : (step : FileStep) → OfAfter IsSoundFiles step → IfOk step (λ after. IsSoundFiles after.files)
stays (Ok after) sound = sound
stays (Err fault) sound = tt
