use Rattle.std.proofs.Common.{arith, sym, ap, ◌∙◌}
use Rattle.dns_snoop.specs.Names.{run_from}
use Rattle.dns_snoop.proofs.JumpLaws.{jump_further}
use Rattle.dns_snoop.proofs.jumps.jump_from.Goals as goal

pub returns-in-Pointer : goal.returns-in-Pointer
returns-in-Pointer c =
    jump_further c.args.message.now c.args.jumps.now c.args.offset c.in-Pointer.target c.requires.jumps c.requires.count (omega (arith, c.if-target-offset.true))
    (ap (run_from 0 c.args.offset) (sym c.split_at.ensures.back) ∙ c.in-Pointer.ensures.1)
