use Rattle.std.proofs.Common.{rules, Some}
use Rattle.mud_base.specs.Reading.{addr_in}
use Rattle.mud_base.proofs.AddrTexts.{reads_as}
use Rattle.mud_base.proofs.read.addr_of.Goals as goal

pub returns-in-Some-clause-grammar : goal.returns-in-Some-clause-grammar
unfolding addr_in
returns-in-Some-clause-grammar c = reads_as c.args.text.now (Some c.in-Some.addr) (search rules)

pub returns-in-None-clause-grammar : goal.returns-in-None-clause-grammar
unfolding addr_in
returns-in-None-clause-grammar c = reads_as c.args.text.now c.ipv6_of.result (search rules)
