use Rattle.std.proofs.Common.{arith, length-take-le}
use Rattle.run_captures.proofs.first.read_first.Goals as goal

pub returns-clause-first : goal.returns-clause-first
returns-clause-first g c = λ tells.
    let size = length-take-le c.first.len c.first.octets (omega (arith, c.first.invariant.within, c.first.invariant.whole)) in
    record {
      took = c.first.invariant.took tells;
      four = omega (arith, c.first.invariant.within);
      short = λ few. absurd (omega (arith, c.first-test.false));
    }
