-- The totals with one packet more: only the contracts of its steps cite this.
use Rattle.std.specs.Prelude.{◌+◌, Bool, if◌then◌else◌}
use Rattle.packet_judge.specs.declared.verdict.Verdict.{Verdict}
use Rattle.packet_judge.specs.declared.verdict.Verdict.TheVariants.{Unmanaged, Link, Unreadable, Governed}
use Rattle.packet_judge.specs.Verdicts.{forwarded}
use Rattle.drop_ledger.specs.declared.totals.Totals.{Totals}
use Rattle.drop_ledger.specs.Seen.{has_both}

unfoldable pub governed_after : Totals → Bool → Bool → Totals
governed_after t passes both = record t {
  packets = t.packets + 1;
  pass = if passes then t.pass + 1 else t.pass;
  drop = if passes then t.drop else t.drop + 1;
  both = if both then t.both + 1 else t.both;
}

unfoldable pub totals_after : Totals → Verdict → Totals
totals_after t Unmanaged = record t { packets = t.packets + 1; unmanaged = t.unmanaged + 1 }
totals_after t Link = record t { packets = t.packets + 1; link = t.link + 1 }
totals_after t (Unreadable part) = record t { packets = t.packets + 1; unreadable = t.unreadable + 1 }
totals_after t (Governed source destination) = governed_after t (forwarded (Governed source destination)) (has_both (Governed source destination))
