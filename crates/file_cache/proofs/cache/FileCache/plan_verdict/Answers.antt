use Rattle.std.proofs.Common.{ap, sym}
use Rattle.usage_tables.specs.FileCommands.{verdict_step}
use Rattle.usage_tables.proofs.SoundFiles.{sound-verdict_step}
use Rattle.usage_tables.proofs.SoundLaws.{stays}
use Rattle.usage_tables.proofs.ToldFiles.{told-verdict_step}
use Rattle.file_cache.specs.Changes.{Files}
use Rattle.file_cache.proofs.Planned.{plans_by}
use Rattle.file_cache.proofs.cache.FileCache.plan_verdict.Goals as goal

pub returns : goal.returns
returns c =
    let sound = c.self.invariant in
    plans_by (verdict_step c.args.url.now c.args.digest.now c.args.v) _ c.self.inside.files.rows _ _ c.in_ok-change.change (ap (λ (x : Files). x.files) (sym c.self.view_is)) c.make_room.ensures.rows sound
    (stays (verdict_step c.args.url.now c.args.digest.now c.args.v c.self.inside.files.rows) (sound-verdict_step c.self.inside.files.rows sound c.args.url.now c.args.digest.now c.args.v))
    (told-verdict_step c.self.inside.files.rows sound.ascend c.args.url.now c.args.digest.now c.args.v) c.in_ok-change.ensures (rw c.edit.ensures at c.in-Ok.ensures.room)
