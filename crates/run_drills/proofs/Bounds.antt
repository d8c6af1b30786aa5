-- No count grows by more than one with a ruling, nor by more than two with a verdict.
use Rattle.std.proofs.Common.{ℕ, ◌+◌, ◌≤◌, Bool, true, false, if◌then◌else◌, Option, Some, None, arith}
use Rattle.acl_model.specs.declared.ruling.Ruling.{Ruling}
use Rattle.acl_model.specs.declared.ruling.Ruling.TheVariants.{Accept, AcceptDefault, Drop, DropDefault, DropHeld}
use Rattle.acl_model.specs.declared.ruling.DefaultRule.TheVariants.{Dns, Ntp}
use Rattle.acl_model.specs.declared.ruling.Why.TheVariants.{NoFile, NoMatch}
use Rattle.packet_judge.specs.declared.verdict.Verdict.{Verdict}
use Rattle.packet_judge.specs.declared.verdict.Verdict.TheVariants.{Unmanaged, Link, Unreadable, Governed}
use Rattle.packet_judge.specs.Verdicts.{forwarded}
use Rattle.run_drills.specs.declared.counts.RulingCounts.{RulingCounts}
use Rattle.run_drills.specs.declared.counts.VerdictCounts.{VerdictCounts}
use Rattle.run_drills.specs.Counts.{AreRulingsAtMost, AreAtMost, with_ruling, with_rulings_in, with_verdict}

pub wider : (most more : ℕ) (counts : RulingCounts) → most ≤ more → AreRulingsAtMost most counts → AreRulingsAtMost more counts
wider most more counts le small = record { accept = omega arith; default_dns = omega arith; default_ntp = omega arith; drop_entry = omega arith; no_file = omega arith; no_match = omega arith }

pub one_more : (most : ℕ) (counts : RulingCounts) (ruling : Option Ruling) → AreRulingsAtMost most counts → AreRulingsAtMost (most + 1) (with_ruling counts ruling)
one_more most counts None small = record { accept = omega arith; default_dns = omega arith; default_ntp = omega arith; drop_entry = omega arith; no_file = omega arith; no_match = omega arith }
one_more most counts (Some (Accept number)) small = record { accept = omega arith; default_dns = omega arith; default_ntp = omega arith; drop_entry = omega arith; no_file = omega arith; no_match = omega arith }
one_more most counts (Some (AcceptDefault Dns)) small = record { accept = omega arith; default_dns = omega arith; default_ntp = omega arith; drop_entry = omega arith; no_file = omega arith; no_match = omega arith }
one_more most counts (Some (AcceptDefault Ntp)) small = record { accept = omega arith; default_dns = omega arith; default_ntp = omega arith; drop_entry = omega arith; no_file = omega arith; no_match = omega arith }
one_more most counts (Some (Drop number)) small = record { accept = omega arith; default_dns = omega arith; default_ntp = omega arith; drop_entry = omega arith; no_file = omega arith; no_match = omega arith }
one_more most counts (Some (DropDefault NoFile)) small = record { accept = omega arith; default_dns = omega arith; default_ntp = omega arith; drop_entry = omega arith; no_file = omega arith; no_match = omega arith }
one_more most counts (Some (DropDefault NoMatch)) small = record { accept = omega arith; default_dns = omega arith; default_ntp = omega arith; drop_entry = omega arith; no_file = omega arith; no_match = omega arith }
one_more most counts (Some DropHeld) small = record { accept = omega arith; default_dns = omega arith; default_ntp = omega arith; drop_entry = omega arith; no_file = omega arith; no_match = omega arith }

two_more : (most : ℕ) (counts : RulingCounts) (verdict : Verdict) → AreRulingsAtMost most counts → AreRulingsAtMost (most + 2) (with_rulings_in counts verdict)
two_more most counts (Governed source destination) small =
    wider (most + 1 + 1) (most + 2) (with_ruling (with_ruling counts source) destination) (omega arith)
    (one_more (most + 1) (with_ruling counts source) destination (one_more most counts source small))
two_more most counts Unmanaged small = wider most (most + 2) counts (omega arith) small
two_more most counts Link small = wider most (most + 2) counts (omega arith) small
two_more most counts (Unreadable part) small = wider most (most + 2) counts (omega arith) small

up_to_one : (passes : Bool) (a most : ℕ) → a ≤ most → (if passes then a + 1 else a) ≤ most + 2
up_to_one true a most low = omega arith
up_to_one false a most low = omega arith

or_one : (passes : Bool) (a most : ℕ) → a ≤ most → (if passes then a else a + 1) ≤ most + 2
or_one true a most low = omega arith
or_one false a most low = omega arith

pub verdict_more : (most : ℕ) (counts : VerdictCounts) (verdict : Verdict) → AreAtMost most counts → AreAtMost (most + 2) (with_verdict counts verdict)
unfolding with_verdict
verdict_more most counts verdict small = record {
  passed = up_to_one (forwarded verdict) counts.passed most small.passed;
  dropped = or_one (forwarded verdict) counts.dropped most small.dropped;
  rulings = two_more most counts.rulings verdict small.rulings;
}
