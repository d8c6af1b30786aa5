-- Every session stays sound.
use Rattle.std.proofs.Common.{◌≡◌, ℕ, ◌≤◌, Bool, true, false, List, [], ◌∷◌, ◌++◌, Option, Some, None, Result, Ok, Err, refl, sym, ap, subst, ◌∙◌, arith}
use Rattle.std.specs.Prelude.{IfOk, nat_le, unwrap_or}
use Rattle.std.specs.List.{AllByRecursion}
use Rattle.std.proofs.lemmas.Bool.{le-leb}
use Rattle.base_rows.proofs.ListTests.{left_of, right_of, both}
use Rattle.base_rows.proofs.Lists.{all_push}
use Rattle.item_codec.proofs.RecordLaws.{bind_some}
use Rattle.mud_base.specs.declared.memory.Memory as want
use Rattle.frame_view.specs.declared.views.Frame.{Frame}
use Rattle.frame_view.specs.Frame.{frame_of}
use Rattle.table_model.specs.declared.segment.Segment.{Segment}
use Rattle.table_model.specs.History.{segment_of, with_segment, is_forward}
use Rattle.table_model.proofs.TypeFacts.{segment_at}
use Rattle.usage_tables.specs.Limits.{last_moment}
use Rattle.packet_judge.specs.declared.verdict.Verdict.{Verdict}
use Rattle.packet_judge.specs.Verdicts.{noted_fields, history_after}
use Rattle.desk_model.specs.declared.command.Command.{Command}
use Rattle.desk_model.specs.declared.reply.Refusal.{Refusal}
use Rattle.desk_model.specs.declared.reply.Reply.{Reply}
use Rattle.desk_model.specs.declared.reply.Reply.TheVariants.{Done, Refused, Keeper, Memory}
use Rattle.desk_model.specs.DeskTables.{DeskTables, IsStamp, IsSound}
use Rattle.desk_model.specs.Commands.{IsCommand, DeskAfter, DeskStep, TellsChange, command_step}
use Rattle.desk_model.specs.Verdicts.{verdict_at}
use Rattle.desk_model.specs.Sessions.{Session, IsSoundSession, Answered, AllowedReply, Runs, IsCall, Judged, AllowedVerdict, opened, later, raised, command_in, verdict_in, frame_in}
use Rattle.desk_model.proofs.SoundSteps.{commands_sound}
use Rattle.desk_model.proofs.ToldSteps.{commands_told}
use Rattle.table_model.proofs.Parts.{segment_in}
use Rattle.packet_judge.proofs.Parts.{noted_segment}
use Rattle.desk_model.proofs.Parts.{answered}

-- ---- Moments

stamp_within : (stamp : Option ℕ) → IsStamp stamp → unwrap_or stamp 0 ≤ last_moment
stamp_within None early = omega arith
stamp_within (Some moment) early = early

later_within : (session : Session) (now : ℕ) → session.moment ≤ last_moment → now ≤ last_moment → later session now ≤ last_moment
unfolding later
later_within session now here there = omega (arith, here, there)

not_before : (session : Session) (now : ℕ) → session.moment ≤ later session now
unfolding later
not_before session now = omega arith

-- ---- The history

noted_at : (frame : Frame) (verdict : Verdict) (now : ℕ) (p : Segment) → noted_segment frame verdict now ≡ Some p → p.at ≡ now
unfolding segment_of
noted_at frame verdict now p e =
    let b = bind_some (noted_fields frame verdict) (λ fields. segment_in fields.src fields.dst now fields.transport) p e in
    segment_at b.0.src b.0.dst now b.0.transport p b.2

abbrev AreUpTo : ℕ → List Segment → Type 0
AreUpTo moment history = AllByRecursion (λ packet. packet.at ≤ moment) history

still_up_to : (m n : ℕ) → m ≤ n → (history : List Segment) → AreUpTo m history → AreUpTo n history
still_up_to m n le [] past = tt
still_up_to m n le (p ∷ ps) past = (omega (arith, le, past.0), still_up_to m n le ps past.1)

forward_push : (history : List Segment) (p : Segment) → is_forward history ≡ true → AreUpTo p.at history → is_forward (history ++ p ∷ []) ≡ true
unfolding is_forward
forward_push [] p forward past = refl
forward_push (q ∷ []) p forward past = both (nat_le q.at p.at) true (le-leb q.at p.at past.0) refl
forward_push (q ∷ (r ∷ rs)) p forward past =
    both (nat_le q.at r.at) (is_forward (r ∷ (rs ++ p ∷ []))) (left_of (nat_le q.at r.at) (is_forward (r ∷ rs)) forward)
    (forward_push (r ∷ rs) p (right_of (nat_le q.at r.at) (is_forward (r ∷ rs)) forward) past.1)

record IsHistory (history : List Segment) (moment : ℕ) : Type 0 where
  pub forward : is_forward history ≡ true
  pub past : AreUpTo moment history

history_with : (history : List Segment) (now : ℕ) (noted : Option Segment) → ((p : Segment) → noted ≡ Some p → p.at ≡ now) → is_forward history ≡ true → AreUpTo now history → IsHistory (with_segment history noted) now
unfolding with_segment
history_with history now None at forward past = record { forward = forward; past = past }
history_with history now (Some p) at forward past =
    let e : p.at ≡ now = at p refl in
    record {
      forward = forward_push history p forward (subst (λ m. AreUpTo m history) (sym e) past);
      past = all_push (λ (q : Segment). q.at ≤ now) history p past (omega (arith, e));
    }

-- ---- Sessions

pub opened_sound : (desk : DeskTables) → IsSound desk → IsSoundSession (opened desk)
unfolding opened is_forward
opened_sound desk sound = record { desk = sound; moment = stamp_within desk.stamp sound.stamp; stamp = omega arith; forward = refl; past = tt }

pub raised_sound : (session : Session) → IsSoundSession session → (now : ℕ) → now ≤ last_moment → IsSoundSession (raised session now)
unfolding raised
raised_sound session sound now early = record {
  desk = sound.desk;
  moment = later_within session now sound.moment early;
  stamp = omega (arith, sound.stamp, not_before session now);
  forward = sound.forward;
  past = still_up_to session.moment (later session now) (not_before session now) session.history sound.past;
}

stamp_after : (before : DeskTables) (now : ℕ) (after : DeskAfter) → TellsChange before now after → unwrap_or before.stamp 0 ≤ now → (changes : Bool) → after.changes ≡ changes → unwrap_or after.desk.stamp 0 ≤ now
stamp_after before now after tells old true e = let s : after.desk.stamp ≡ Some now = tells.stamp e in rw s (omega arith)
stamp_after before now after tells old false e = let s : after.desk ≡ before = tells.same e in rw s old

module _ (session : Session) (now : ℕ) where
  answered_sound : IsSoundSession session → later session now ≤ last_moment → (step : DeskStep) → IfOk step (λ after. IsSound after.desk) → IfOk step (TellsChange session.desk (later session now)) → IsSoundSession (answered session (later session now) step).session
  answered_sound sound early (Ok after) desk tells = record {
    desk = desk;
    moment = early;
    stamp = stamp_after session.desk (later session now) after tells (omega (arith, sound.stamp, not_before session now)) after.changes refl;
    forward = sound.forward;
    past = still_up_to session.moment (later session now) (not_before session now) session.history sound.past;
  }
  answered_sound sound early (Err refusal) desk tells = sound

  answered_history : (step : DeskStep) → (answered session (later session now) step).session.history ≡ session.history
  answered_history (Ok after) = refl
  answered_history (Err refusal) = refl

  answered_moment : (step : DeskStep) → session.moment ≤ (answered session (later session now) step).session.moment
  answered_moment (Ok after) = not_before session now
  answered_moment (Err refusal) = omega arith

  answered_refused : (step : DeskStep) (refusal : Refusal) → (answered session (later session now) step).reply ≡ Refused refusal → (answered session (later session now) step).session ≡ session
  answered_refused (Ok after) refusal e = absurd cc
  answered_refused (Err fault) refusal e = refl

  pub refused_same : (command : Command) (refusal : Refusal) → (command_in session now command).reply ≡ Refused refusal → (command_in session now command).session ≡ session
  unfolding command_in
  refused_same command refusal e = answered_refused (command_step session.desk (later session now) command) refusal e

  -- what holds of the session that a command leaves, and of the session as it was, holds after every answer
  after_answer : (P : Session → Type 0) (command : Command) → P session → P (command_in session now command).session → (reply : Reply) (after : Session) → AllowedReply session now command reply after → P after
  unfolding AllowedReply
  after_answer P command old new Memory after may = subst P (sym may) old
  after_answer P command old new Keeper after may = subst P (sym may.1) old
  after_answer P command old new (Done outcome) after may = subst (λ (a : Answered). P a.session) may new
  after_answer P command old new (Refused refusal) after may = subst (λ (a : Answered). P a.session) may new

  pub command_sound : IsSoundSession session → (command : Command) → now ≤ last_moment → IsCommand command → (reply : Reply) (after : Session) → AllowedReply session now command reply after → IsSoundSession after
  unfolding command_in
  command_sound sound command early is reply after may =
      let within : later session now ≤ last_moment = later_within session now sound.moment early in
      after_answer IsSoundSession command sound
      (answered_sound sound within (command_step session.desk (later session now) command) (commands_sound session.desk sound.desk command (later session now) is within) (commands_told session.desk sound.desk command (later session now) is))
      reply after may

  pub command_history : (command : Command) (reply : Reply) (after : Session) → AllowedReply session now command reply after → after.history ≡ session.history
  unfolding command_in
  command_history command reply after may = after_answer (λ s. s.history ≡ session.history) command refl (answered_history (command_step session.desk (later session now) command)) reply after may

  pub command_moment : (command : Command) (reply : Reply) (after : Session) → AllowedReply session now command reply after → session.moment ≤ after.moment
  unfolding command_in
  command_moment command reply after may = after_answer (λ s. session.moment ≤ s.moment) command (omega arith) (answered_moment (command_step session.desk (later session now) command)) reply after may

  pub frame_sound : IsSoundSession session → (frame : List ℕ) → now ≤ last_moment → IsSoundSession (frame_in session now frame).session
  unfolding frame_in verdict_in history_after
  frame_sound sound frame early =
      let m : ℕ = later session now in
      let verdict : Verdict = verdict_at session.desk session.history m frame in
      let h : IsHistory (with_segment session.history (noted_segment (frame_of frame) verdict m)) m =
      history_with session.history m (noted_segment (frame_of frame) verdict m) (λ p e. noted_at (frame_of frame) verdict m p e) sound.forward (still_up_to session.moment m (not_before session now) session.history sound.past) in
      record {
        desk = sound.desk;
        moment = later_within session now sound.moment early;
        stamp = omega (arith, sound.stamp, not_before session now);
        forward = h.forward;
        past = h.past;
      }

  pub frame_keeps : (frame : List ℕ) → ((frame_in session now frame).session.desk ≡ session.desk) × ((frame_in session now frame).session.moment ≡ later session now)
  unfolding frame_in
  frame_keeps frame = (refl, refl)

  -- the same of a frame
  after_verdict : (P : Session → Type 0) (frame : List ℕ) → P session → P (frame_in session now frame).session → (verdict : Result Verdict want.Memory) (after : Session) → AllowedVerdict session now frame verdict after → P after
  unfolding AllowedVerdict
  after_verdict P frame old new (Ok verdict) after may = subst (λ (j : Judged). P j.session) may new
  after_verdict P frame old new (Err memory) after may = subst P (sym may.1) old

  pub judged_sound : IsSoundSession session → (frame : List ℕ) → now ≤ last_moment → (verdict : Result Verdict want.Memory) (after : Session) → AllowedVerdict session now frame verdict after → IsSoundSession after
  judged_sound sound frame early verdict after may = after_verdict IsSoundSession frame sound (frame_sound sound frame early) verdict after may

  pub judged_desk : (frame : List ℕ) (verdict : Result Verdict want.Memory) (after : Session) → AllowedVerdict session now frame verdict after → after.desk ≡ session.desk
  judged_desk frame verdict after may = after_verdict (λ s. s.desk ≡ session.desk) frame refl (frame_keeps frame).0 verdict after may

  pub judged_moment : (frame : List ℕ) (verdict : Result Verdict want.Memory) (after : Session) → AllowedVerdict session now frame verdict after → session.moment ≤ after.moment
  judged_moment frame verdict after may = after_verdict (λ s. session.moment ≤ s.moment) frame (omega arith) (subst (λ m. session.moment ≤ m) (sym (frame_keeps frame).1) (not_before session now)) verdict after may

-- ---- Several commands

pub runs_sound : (session : Session) → IsSoundSession session → (calls : List (ℕ × Command)) → AllByRecursion IsCall calls → (replies : List Reply) (after : Session) → Runs session calls replies after → IsSoundSession after
runs_sound session sound [] each [] after run = subst IsSoundSession (sym run) sound
runs_sound session sound (call ∷ calls) each (reply ∷ replies) after run =
    runs_sound run.0 (command_sound session call.0 sound call.1 each.0.moment each.0.command reply run.0 run.1) calls each.1 replies after run.2
runs_sound session sound [] each (reply ∷ replies) after run = absurd run
runs_sound session sound (call ∷ calls) each [] after run = absurd run

pub runs_push : (session : Session) (calls : List (ℕ × Command)) (replies : List Reply) (middle : Session) → Runs session calls replies middle → (now : ℕ) (command : Command) (reply : Reply) (after : Session) → AllowedReply middle now command reply after → Runs session (calls ++ (now, command) ∷ []) (replies ++ reply ∷ []) after
runs_push session [] [] middle run now command reply after may = (after, subst (λ s. AllowedReply s now command reply after) run may, refl)
runs_push session (call ∷ calls) (said ∷ replies) middle run now command reply after may = (run.0, run.1, runs_push run.0 calls replies middle run.2 now command reply after may)
runs_push session [] (said ∷ replies) middle run now command reply after may = absurd run
runs_push session (call ∷ calls) [] middle run now command reply after may = absurd run

pub runs_history : (session : Session) (calls : List (ℕ × Command)) (replies : List Reply) (after : Session) → Runs session calls replies after → after.history ≡ session.history
runs_history session [] [] after run = ap (λ (s : Session). s.history) run
runs_history session (call ∷ calls) (reply ∷ replies) after run = runs_history run.0 calls replies after run.2 ∙ command_history session call.0 call.1 reply run.0 run.1
runs_history session [] (reply ∷ replies) after run = absurd run
runs_history session (call ∷ calls) [] after run = absurd run
