use Rattle.std.proofs.Common.{◌<◌, arith, length, ap}
use Rattle.mud_base.specs.Padded.{IsPadded-push, length-front}
use Rattle.mud_base.proofs.short_text.ShortText.push.Goals as goal

pub invariant_of-self : goal.invariant_of-self
invariant_of-self c =
    let room : c.self.inside.len < 256 = omega (arith, length-front _ _ c.self.invariant, ap length c.self.view_is, c.requires) in
    IsPadded-push _ _ _ c.self.invariant room
