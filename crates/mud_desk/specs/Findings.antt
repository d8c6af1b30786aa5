-- What decides a frame, as the code lends it.
use Rattle.std.specs.Prelude.{◌≡◌, List, Option, Some, None, option_map}
use Rattle.frame_view.specs.declared.views.Frame.{Frame}
use Rattle.frame_view.specs.declared.views.Frame.TheVariants.{Packet}
use Rattle.table_model.specs.declared.thing.Thing.{Thing}
use Rattle.packet_judge.specs.declared.verdict.Verdict.{Verdict}
use Rattle.packet_judge.specs.declared.verdict.Verdict.TheVariants.{Governed}
use Rattle.packet_judge.specs.Verdicts.{endpoints_of}
use Rattle.desk_model.specs.Findings.{Policies, Found, source_found, destination_found}
use Rattle.mud_desk.specs.declared.findings.RuledThing.{RuledThing}
use Rattle.mud_desk.specs.declared.findings.Findings.{Findings}

unfoldable pub found_in : Option RuledThing → Option Found
found_in None = None
found_in (Some ruled) = Some (record { thing = ruled.thing.now; ruling = ruled.ruling; entry = option_map (λ e. e.now) ruled.entry })

-- what is lent is what decides the frame by these policies and Things, with the verdict that is answered
pub record AreFindingsOn (policies : Policies) (things : List Thing) (frame : Frame) (findings : Findings) : Type 0 where
  pub source : found_in findings.source ≡ source_found policies things frame findings.verdict
  pub destination : found_in findings.destination ≡ destination_found policies things frame findings.verdict

-- a packet that is for no Thing, as one for a group, has no ruling there
abbrev pub HasRulingsOfThings : List Thing → Frame → Verdict → Type 0
HasRulingsOfThings things (Packet packet) (Governed source destination) = (endpoints_of things packet.octets).destination ≡ None → destination ≡ None
HasRulingsOfThings things _ _ = Unit {0}
