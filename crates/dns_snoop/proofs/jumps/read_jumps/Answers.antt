use Rattle.std.proofs.Common.{arith, ap, List, ℕ, length, length-append, ◌∷◌, []}
use Rattle.dns_snoop.proofs.JumpLaws.{jumps_added}
use Rattle.dns_snoop.proofs.jumps.read_jumps.Goals as goal

pub offsets-preserved : goal.offsets-preserved
offsets-preserved c = record {
  count = omega (arith, c.offsets.invariant.count, ap (λ (jumps : List ℕ). length jumps) c.in_ok-push.ensures.ok, length-append c.offsets.jumps (c.jump_from-jump.result ∷ []));
  all = rw c.in_ok-push.ensures.ok (jumps_added c.args.message.now c.offsets.jumps c.offsets.offset c.jump_from-jump.result c.offsets.invariant.all c.offsets.invariant.count c.jump_from-jump.ensures);
}
