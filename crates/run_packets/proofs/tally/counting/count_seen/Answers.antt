use Rattle.std.proofs.Common.{ℕ, ◌<◌, None, cond, sym, ap, subst, ◌∙◌}
use Rattle.drop_ledger.specs.declared.totals.Totals.{Totals}
use Rattle.drop_ledger.specs.Seen.{hour_of}
use Rattle.drop_ledger.specs.Plan.{seen_planned}
use Rattle.run_packets.specs.Tally.Tallied.{is_over}
use Rattle.run_packets.proofs.TallyLaws.Stepped.{hour_then, counted_seen}
use Rattle.run_packets.proofs.tally.counting.count_seen.Goals as goal

pub plan-requires : goal.plan-requires
plan-requires c = record {
  hour = hour_then c.args.tally.now.hour c.close_before.new.tally.hour (hour_of c.args.seen.now)
      (c.close_before.ensures.hour ∙ ap (λ (n : ℕ). cond (is_over c.args.tally.now.hour n) None c.args.tally.now.hour) c.hour.ensures);
  few = subst (λ (t : Totals). t.packets < 18446744073709551615) (sym c.close_before.ensures.totals) c.requires.few;
}

pub returns : goal.returns
returns c = λ all latest stands.
    counted_seen all latest c.args.seen.now (seen_planned c.in-Ok.plan) c.args.tally.now c.close_before.new.tally c.plan.new.self c.note.new.self c.hour.result
    stands c.hour.ensures (c.close_before.ensures.stands all latest stands) c.in-Ok.ensures.same c.in-Ok.ensures.plan c.note.ensures
