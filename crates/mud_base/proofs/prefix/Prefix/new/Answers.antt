use Rattle.std.proofs.Common.{◌≤◌, arith}
use Rattle.mud_base.specs.Addresses.{addr_bits}
use Rattle.mud_base.proofs.Prefixes.{IsPrefix-masked}
use Rattle.mud_base.proofs.prefix.Prefix.new.Goals as goal

pub invariant_of-result : goal.invariant_of-result
invariant_of-result c =
    let within : c.args.len ≤ addr_bits c.args.addr = omega arith in
    rw c.masked.ensures (IsPrefix-masked c.args.addr c.args.len within)
