-- The packet that a plan is for.
use Rattle.drop_ledger.specs.declared.seen.Seen.{Seen}
use Rattle.drop_ledger.specs.declared.tally.TallyPlan.{TallyPlan}

unfoldable pub seen_planned : TallyPlan → Seen
seen_planned plan = plan.seen
