-- What is known of a frame that was judged: its verdict, and the session behind it.
use Rattle.std.proofs.Common.{◌≡◌, ℕ, List, Result, Ok, Err, IfOk, IfErr, OnOk, OnErr, sym, ap, ◌∙◌}
use Rattle.mud_base.specs.declared.memory.Memory as want
use Rattle.packet_judge.specs.declared.verdict.Verdict.{Verdict}
use Rattle.desk_model.specs.Sessions.{Session, Judged, AllowedVerdict, frame_in}
use Rattle.mud_desk.specs.declared.state.JudgedFrame.{JudgedFrame}

module _ (before after : Session) (now : ℕ) (frame : List ℕ) where
  pub verdict_is : (seconds : ℕ) → now ≡ seconds → (verdict : Verdict) → AllowedVerdict before now frame (Ok verdict) after → verdict ≡ (frame_in before seconds frame).verdict
  unfolding AllowedVerdict
  verdict_is seconds same verdict judged = sym (ap (λ (j : Judged). j.verdict) judged) ∙ ap (λ (n : ℕ). (frame_in before n frame).verdict) same

  pub next_is : (seconds : ℕ) → now ≡ seconds → (verdict : Verdict) → AllowedVerdict before now frame (Ok verdict) after → after ≡ (frame_in before seconds frame).session
  unfolding AllowedVerdict
  next_is seconds same verdict judged = sym (ap (λ (j : Judged). j.session) judged) ∙ ap (λ (n : ℕ). (frame_in before n frame).session) same

  pub judged_verdict : (seconds : ℕ) → now ≡ seconds → (r : Result JudgedFrame want.Memory) → IfOk r (λ judged. AllowedVerdict before now frame (Ok judged.verdict) after) → IfOk r (λ judged. judged.verdict ≡ (frame_in before seconds frame).verdict)
  judged_verdict seconds same (Ok read) judged = verdict_is seconds same read.verdict judged
  judged_verdict seconds same (Err memory) judged = tt

  pub judged_next : (seconds : ℕ) → now ≡ seconds → (r : Result JudgedFrame want.Memory) → IfOk r (λ judged. AllowedVerdict before now frame (Ok judged.verdict) after) → OnOk r (after ≡ (frame_in before seconds frame).session)
  judged_next seconds same (Ok read) judged = next_is seconds same read.verdict judged
  judged_next seconds same (Err memory) judged = tt

  pub judged_not : (r : Result JudgedFrame want.Memory) → IfErr r (λ memory. AllowedVerdict before now frame (Err memory) after) → OnErr r (after ≡ before)
  unfolding AllowedVerdict
  judged_not (Ok read) judged = tt
  judged_not (Err memory) judged = judged.1
