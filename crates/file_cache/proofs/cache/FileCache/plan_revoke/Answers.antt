use Rattle.std.proofs.Common.{ap, sym}
use Rattle.usage_tables.specs.FileCommands.{revoke_step}
use Rattle.usage_tables.proofs.SoundFiles.{sound-revoke_step}
use Rattle.usage_tables.proofs.SoundLaws.{stays}
use Rattle.usage_tables.proofs.ToldFiles.{told-revoke_step}
use Rattle.file_cache.specs.Changes.{Files}
use Rattle.file_cache.proofs.Planned.{plans_by}
use Rattle.file_cache.proofs.cache.FileCache.plan_revoke.Goals as goal

pub returns : goal.returns
returns c =
    let sound = c.self.invariant in
    plans_by (revoke_step c.args.url.now) _ c.self.inside.files.rows _ _ c.in_ok-change.change (ap (λ (x : Files). x.files) (sym c.self.view_is)) c.make_room.ensures.rows sound
    (stays (revoke_step c.args.url.now c.self.inside.files.rows) (sound-revoke_step c.self.inside.files.rows sound c.args.url.now))
    (told-revoke_step c.self.inside.files.rows sound.ascend c.args.url.now) c.in_ok-change.ensures (rw c.edit.ensures at c.in-Ok.ensures.room)
