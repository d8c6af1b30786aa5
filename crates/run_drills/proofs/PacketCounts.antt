-- One packet more in the loop over the packets.
use Rattle.std.proofs.Common.{◌≡◌, ℕ, ◌+◌, ◌*◌, ◌≤◌, List, ◌∷◌, [], ◌++◌, sym, ap, ap₂, subst, ◌∙◌, arith}
use Rattle.packet_judge.specs.declared.verdict.Verdict.{Verdict}
use Rattle.desk_model.specs.Sessions.{Session, Judged, frame_in}
use Rattle.run_drills.specs.declared.counts.VerdictCounts.{VerdictCounts}
use Rattle.run_drills.specs.Packets.{packet_frame, packet_moment}
use Rattle.run_drills.specs.Counts.{AreAtMost, ruling_counts, verdict_counts, with_verdict}
use Rattle.run_drills.specs.Drill.{numbers_to, session_behind, verdicts_on}
use Rattle.run_drills.proofs.Bounds.{verdict_more, wider}
use Rattle.run_drills.proofs.Counted.{counts_push}
use Rattle.run_drills.proofs.Rounds.{behind_push, numbers_push, verdicts_push}

module _ (packets before : ℕ) (s : Session) where
  behind_next : session_behind packets s (numbers_to (before + 1)) ≡ (frame_in (session_behind packets s (numbers_to before)) (packet_moment (before + 1)) (packet_frame packets (before + 1))).session
  behind_next = ap (session_behind packets s) (numbers_push before) ∙ behind_push packets s (numbers_to before) (before + 1)

  verdicts_next : verdicts_on packets s (numbers_to (before + 1)) ≡ verdicts_on packets s (numbers_to before) ++ (frame_in (session_behind packets s (numbers_to before)) (packet_moment (before + 1)) (packet_frame packets (before + 1))).verdict ∷ []
  verdicts_next = ap (verdicts_on packets s) (numbers_push before) ∙ verdicts_push packets s (numbers_to before) (before + 1)

  -- the frame that is judged behind them is that of the next packet, at its moment
  module _ (here : Session) (reached : here ≡ session_behind packets s (numbers_to before)) (moment : ℕ) (octets frame : List ℕ) (at_moment : moment ≡ packet_moment (before + 1)) (lent : octets ≡ frame) (written : frame ≡ packet_frame packets (before + 1)) where
    judged_is : frame_in here moment octets ≡ frame_in (session_behind packets s (numbers_to before)) (packet_moment (before + 1)) (packet_frame packets (before + 1))
    judged_is = λ i. frame_in (reached i) (at_moment i) ((lent ∙ written) i)

    pub reached_next : (next : Session) → next ≡ (frame_in here moment octets).session → next ≡ session_behind packets s (numbers_to (before + 1))
    reached_next next is = is ∙ ap (λ (j : Judged). j.session) judged_is ∙ sym behind_next

    pub counted_next : (counts after : VerdictCounts) (verdict : Verdict) → counts ≡ verdict_counts (verdicts_on packets s (numbers_to before))
        → verdict ≡ (frame_in here moment octets).verdict
        → after ≡ with_verdict counts verdict → after ≡ verdict_counts (verdicts_on packets s (numbers_to (before + 1)))
    counted_next counts after verdict counted judged is =
        is ∙ ap₂ with_verdict counted (judged ∙ ap (λ (j : Judged). j.verdict) judged_is)
        ∙ sym (counts_push (verdicts_on packets s (numbers_to before)) (frame_in (session_behind packets s (numbers_to before)) (packet_moment (before + 1)) (packet_frame packets (before + 1))).verdict)
        ∙ ap verdict_counts (sym verdicts_next)

-- ---- Bounds

pub at_most_more : (most more : ℕ) (counts : VerdictCounts) → most ≤ more → AreAtMost most counts → AreAtMost more counts
at_most_more most more counts le small = record { passed = omega (arith, le, small.passed); dropped = omega (arith, le, small.dropped); rulings = wider most more counts.rulings le small.rulings }

pub small_next : (before : ℕ) (counts after : VerdictCounts) (verdict : Verdict) → AreAtMost (2 * before) counts → after ≡ with_verdict counts verdict → AreAtMost (2 * (before + 1)) after
small_next before counts after verdict small is =
    subst (λ (c : VerdictCounts). AreAtMost (2 * (before + 1)) c) (sym is)
    (at_most_more (2 * before + 2) (2 * (before + 1)) (with_verdict counts verdict) (omega arith) (verdict_more (2 * before) counts verdict small))

pub none_counted : (counts : VerdictCounts) → counts ≡ verdict_counts [] → AreAtMost 0 counts
unfolding verdict_counts ruling_counts
none_counted counts is = subst (λ (c : VerdictCounts). AreAtMost 0 c) (sym is) (record {
  passed = omega arith;
  dropped = omega arith;
  rulings = record { accept = omega arith; default_dns = omega arith; default_ntp = omega arith; drop_entry = omega arith; no_file = omega arith; no_match = omega arith };
})
