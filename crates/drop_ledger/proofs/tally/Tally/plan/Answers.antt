use Rattle.std.proofs.Common.{◌≡◌, ℕ, ◌<◌, ◌⊎◌, Option, Some, None, refl, sym, subst}
use Rattle.drop_ledger.specs.declared.seen.Seen.{Seen}
use Rattle.drop_ledger.specs.declared.totals.Totals.{Totals}
use Rattle.drop_ledger.specs.Seen.{hour_of}
use Rattle.drop_ledger.specs.Ledger.{TallyState, MayFollow, IsSameTally}
use Rattle.drop_ledger.specs.Plan.{seen_planned}
use Rattle.drop_ledger.proofs.tally.Tally.plan.Goals as goal

may_still : (before after : TallyState) (s : Seen) → IsSameTally before after → MayFollow before s → MayFollow after s
may_still before after s same may = record {
  hour = subst (λ (h : Option ℕ). (h ≡ None) ⊎ (h ≡ Some (hour_of s))) (sym same.hour) may.hour;
  few = subst (λ (t : Totals). t.packets < 18446744073709551615) (sym same.totals) may.few;
}

pub returns-clause-plan : goal.returns-clause-plan
unfolding seen_planned
returns-clause-plan c = refl

pub returns-clause-ready : goal.returns-clause-ready
unfolding seen_planned
returns-clause-ready c = may_still c.args.self.now c.make_room.new.self _ c.make_room.ensures.same c.requires
