use Rattle.std.proofs.Common.{sym, subst, List, ℕ}
use Rattle.dns_snoop.specs.Observed.{IsObservable}
use Rattle.run_packets.proofs.SnoopLaws.Asked.{may_be_asked}
use Rattle.run_packets.proofs.snoop.observing.observe.Goals as goal

pub execute-requires-clause-asked : goal.execute-requires-clause-asked
execute-requires-clause-asked g c =
    may_be_asked c.in_ok-name.name c.args.row (subst (λ (name : List ℕ). IsObservable name c.args.row) (sym c.in_ok-name.ensures) c.requires.asked)
