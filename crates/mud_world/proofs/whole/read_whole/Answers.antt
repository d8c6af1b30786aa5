use Rattle.std.proofs.Common.{arith}
use Rattle.std.proofs.lemmas.List.{length-take}
use Rattle.std.proofs.lemmas.Result.{MatchResult-from_err}
use Rattle.mud_world.proofs.Wholes.{took_part}
use Rattle.mud_world.proofs.whole.read_whole.Goals as goal

pub returns-in_err-read_on-clause-part : goal.returns-in_err-read_on-clause-part
returns-in_err-read_on-clause-part g c = λ t.
    let part = took_part _ _ _ _ _ _ (c.more.invariant.took t) (c.in_err-read_on.ensures.part t) (omega (arith, length-take c.room_for-room.result c.more.buffer)) in
    MatchResult-from_err c.from_residual.result _ _ c.from_residual.ensures.0 (λ _. part)
