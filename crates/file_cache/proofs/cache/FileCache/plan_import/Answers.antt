use Rattle.std.proofs.Common.{ap, sym}
use Rattle.usage_tables.specs.FileCommands.{import_step}
use Rattle.usage_tables.proofs.SoundFiles.{sound-import_step}
use Rattle.usage_tables.proofs.SoundLaws.{stays}
use Rattle.usage_tables.proofs.ToldFiles.{told-import_step}
use Rattle.file_cache.specs.Changes.{Files}
use Rattle.file_cache.proofs.Planned.{plans_by}
use Rattle.file_cache.proofs.cache.FileCache.plan_import.Goals as goal

pub returns : goal.returns
returns c =
    let sound = c.self.invariant in
    plans_by (import_step c.args.octets.now c.args.fetched) _ c.self.inside.files.rows _ _ c.in_ok-change.change (ap (λ (x : Files). x.files) (sym c.self.view_is)) c.make_room.ensures.rows sound
    (stays (import_step c.args.octets.now c.args.fetched c.self.inside.files.rows) (sound-import_step c.self.inside.files.rows sound c.args.octets.now c.args.fetched c.moment_fits.ensures))
    (told-import_step c.self.inside.files.rows sound.ascend c.args.octets.now c.args.fetched) c.in_ok-change.ensures (rw c.edit.ensures at c.in-Ok.ensures.room)
