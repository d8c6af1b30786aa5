use Rattle.std.proofs.Common.{◌≤◌, ◌^◌, arith}
use Rattle.std.proofs.Math.Nat.{one-le-pow}
use Rattle.pcapng_read.proofs.options.units_of.Goals as goal

pub returns-then-resolution-le9-clause-some : goal.returns-then-resolution-le9-clause-some
returns-then-resolution-le9-clause-some c =
    let some : 1 ≤ 10 ^ c.from.result = one-le-pow c.from.result 10 (omega arith) in
    omega (arith, some, c.pow.ensures)
