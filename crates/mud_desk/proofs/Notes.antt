-- The history after a frame, by whether its packet counts.
use Rattle.std.proofs.Common.{◌≡◌, ℕ, List, [], ◌∷◌, ◌++◌, Option, Some, None, sym, ap, ◌∙◌}
use Rattle.std.specs.Option.{option_and_then}
use Rattle.mud_base.specs.declared.packet.Fields.{Fields}
use Rattle.table_model.specs.declared.segment.Segment.{Segment}
use Rattle.table_model.specs.History.{segment_of, with_segment}
use Rattle.frame_view.specs.declared.views.Frame.{Frame}
use Rattle.packet_judge.specs.declared.verdict.Verdict.{Verdict}
use Rattle.packet_judge.specs.Verdicts.{noted_fields, history_after}

pub history_kept : (h : List Segment) (frame : Frame) (verdict : Verdict) (now : ℕ) → None ≡ noted_fields frame verdict → history_after h frame verdict now ≡ h
unfolding history_after with_segment
history_kept h frame verdict now none = ap (λ (o : Option Fields). with_segment h (option_and_then (λ fields. segment_of fields now) o)) (sym none)

pub history_more : (h : List Segment) (frame : Frame) (verdict : Verdict) (now : ℕ) (fields : Fields) (p : Segment) → Some fields ≡ noted_fields frame verdict → segment_of fields now ≡ Some p → history_after h frame verdict now ≡ h ++ p ∷ []
unfolding history_after with_segment
history_more h frame verdict now fields p some is = ap (λ (o : Option Fields). with_segment h (option_and_then (λ f. segment_of f now) o)) (sym some) ∙ ap (with_segment h) is
