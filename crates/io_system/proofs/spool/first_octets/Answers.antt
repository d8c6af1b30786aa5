use Rattle.std.proofs.Common.{arith, rules}
use Rattle.std.specs.Io.KnownBytes.{Consumes}
use Rattle.std.proofs.KnownBytes.{Consumes-trans}
use Rattle.io_system.proofs.FirstOctets.{all_read, most_read}
use Rattle.io_system.proofs.spool.first_octets.Goals as goal

pub returns-then-branch-eq0-clause-octets : goal.returns-then-branch-eq0-clause-octets
returns-then-branch-eq0-clause-octets g c =
    let text = c.in_ok-read_on.ensures.text in
    let read : Consumes (g.F.Read.remaining c.args.file.now) (g.F.Read.remaining c.read_on.new.file) c.read_on.new.text = rw text (Consumes-trans _ _ _ _ _ c.more.invariant.octets c.in_ok-read_on.ensures.octets) in
    all_read 262145 (g.F.Read.remaining c.args.file.now) (g.F.Read.remaining c.read_on.new.file) c.read_on.new.text read
    (c.in_ok-read_on.ensures.end (search rules) (search rules)) (search rules)

pub returns-clause-octets : goal.returns-clause-octets
returns-clause-octets g c =
    most_read 262145 (g.F.Read.remaining c.args.file.now) (g.F.Read.remaining c.more.file) c.more.text c.more.invariant.octets (omega (arith, c.more.invariant.within, c.more-test.false))
