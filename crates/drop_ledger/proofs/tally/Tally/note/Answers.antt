use Rattle.std.proofs.Common.{sym, subst}
use Rattle.drop_ledger.specs.Seen.{AreSums}
use Rattle.drop_ledger.specs.Ledger.{StandsFor, MayFollow}
use Rattle.drop_ledger.specs.Plan.{seen_planned}
use Rattle.drop_ledger.specs.contracts.tally.Tally.{the_view}
use Rattle.drop_ledger.proofs.TallyLaws.{sums_after, noted}
use Rattle.drop_ledger.proofs.tally.Tally.note.Goals as goal

pub invariant_of-self : goal.invariant_of-self
invariant_of-self c = subst AreSums (sym c.with_packet-self-inside.ensures) (sums_after c.self.inside.totals c.args.plan.seen.verdict c.self.invariant)

pub returns : goal.returns
unfolding seen_planned
returns c = λ all latest stands.
    noted all latest (the_view c.self.inside) (subst (StandsFor all latest) (sym c.self.view_is) stands) c.args.plan.seen (subst (λ t. MayFollow t c.args.plan.seen) (sym c.self.view_is) c.requires.ready)
    c.ruled_on-sent.result c.ruled_on-received.result c.ruled_on-sent.ensures c.ruled_on-received.ensures
    (the_view (record { totals = c.with_packet-self-inside.result; hour = c.hour_after-self-inside.result; counts = c.count_endpoint-2.new.counts; denied = c.count_endpoint-2.new.denied; others = c.count_endpoint-2.new.others })) c.count_endpoint.new.counts.rows c.count_endpoint.new.denied.rows c.count_endpoint.new.others.rows
    c.with_packet-self-inside.ensures c.hour_after-self-inside.ensures
    c.count_endpoint.ensures.counted c.count_endpoint-2.ensures.counted c.count_endpoint.ensures.noted c.count_endpoint-2.ensures.noted
