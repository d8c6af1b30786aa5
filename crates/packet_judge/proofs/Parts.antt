-- Parts of definitions that lemmas speak of.
use Rattle.std.specs.Prelude.{ℕ, Option}
use Rattle.packet_judge.specs.Verdicts.{Endpoints, Rulings, endpoint_ruling, noted_fields}
use Rattle.mud_base.specs.declared.packet.Fields.{Fields}
use Rattle.mud_base.specs.declared.packet.Direction.TheVariants.{From, To}
use Rattle.packet_judge.specs.declared.verdict.Verdict.TheVariants.{Governed}
use Rattle.packet_judge.specs.declared.verdict.Verdict.{Verdict}
use Rattle.frame_view.specs.declared.views.Frame.{Frame}
use Rattle.table_model.specs.declared.segment.Segment.{Segment}
use Rattle.frame_view.specs.declared.views.Frame.TheVariants as frame
use Rattle.std.specs.Option.{option_and_then}
use Rattle.table_model.specs.History.{segment_of}

abbrev pub governed : Rulings → Fields → Endpoints → Verdict
governed rulings fields endpoints = Governed (endpoint_ruling rulings From fields endpoints.source) (endpoint_ruling rulings To fields endpoints.destination)

abbrev pub noted_segment : Frame → Verdict → ℕ → Option Segment
noted_segment frame verdict now = option_and_then (λ fields. segment_of fields now) (noted_fields frame verdict)
