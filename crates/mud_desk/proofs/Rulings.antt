-- Where there is no Thing a verdict has no ruling, so a Thing is found by its address alone.
use Rattle.std.proofs.Common.{◌≡◌, Bool, true, false, List, Option, None, refl, sym, ap, ◌∙◌, subst, if◌then◌else◌}
use Rattle.mud_base.specs.declared.packet.Direction.TheVariants.{From, To}
use Rattle.acl_model.specs.declared.ruling.Ruling.{Ruling}
use Rattle.table_model.specs.declared.thing.Thing.{Thing}
use Rattle.table_model.specs.Things.{thing_at}
use Rattle.table_model.specs.Tables.{destination_thing}
use Rattle.frame_view.specs.declared.views.Frame.{Frame}
use Rattle.frame_view.specs.declared.views.Frame.TheVariants.{Link, Unreadable, Packet}
use Rattle.frame_view.specs.Ethernet.{destination_of, source_of}
use Rattle.frame_view.specs.PacketFrame.{PacketFrame}
use Rattle.packet_judge.specs.declared.verdict.Verdict.{Verdict}
use Rattle.packet_judge.specs.declared.verdict.Verdict.TheVariants.{Unmanaged, Governed}
use Rattle.packet_judge.specs.Verdicts.{endpoints_of, Rulings, endpoint_ruling, is_managed, if_managed, verdict_on}
use Rattle.mud_desk.specs.Findings.{HasRulingsOfThings}
use Rattle.desk_model.specs.Findings.{Policies, found_at, source_found, destination_found}
use Rattle.packet_judge.proofs.Parts.{governed}
use Rattle.table_model.proofs.Parts.{is_group}

-- ---- The verdict has a ruling where there is a Thing alone

unruled : (rulings : Rulings) (things : List Thing) (packet : PacketFrame) (b : Bool)
    → HasRulingsOfThings things (Packet packet) (if b then (governed rulings packet.fields (endpoints_of things packet.octets)) else Unmanaged)
unfolding endpoint_ruling
unruled rulings things packet true = λ none. ap (endpoint_ruling rulings To packet.fields) none
unruled rulings things packet false = tt

rules_on : (rulings : Rulings) (things : List Thing) (f : Frame) → HasRulingsOfThings things f (verdict_on rulings things f)
unfolding verdict_on if_managed
rules_on rulings things (Packet packet) = unruled rulings things packet (is_managed (endpoints_of things packet.octets))
rules_on rulings things (Link octets) = tt
rules_on rulings things (Unreadable octets part) = tt

pub rules_things : (rulings : Rulings) (things : List Thing) (f : Frame) (verdict : Verdict) → verdict ≡ verdict_on rulings things f → HasRulingsOfThings things f verdict
rules_things rulings things f verdict is = subst (λ (v : Verdict). HasRulingsOfThings things f v) (sym is) (rules_on rulings things f)

-- ---- Both endpoints are found by their addresses

alike : (policies : Policies) (ruling : Option Ruling) (thing : Option Thing) (b : Bool) → ((if b then None else thing) ≡ None → ruling ≡ None) → found_at policies To ruling thing ≡ found_at policies To ruling (if b then None else thing)
unfolding found_at
alike policies ruling thing true none = ap (λ (r : Option Ruling). found_at policies To r thing) (none refl) ∙ sym (ap (λ (r : Option Ruling). found_at policies To r None) (none refl))
alike policies ruling thing false none = refl

module _ (policies : Policies) (things : List Thing) (packet : PacketFrame) (source destination : Option Ruling) where
  pub found_from : found_at policies From source (thing_at (source_of packet.octets) things) ≡ source_found policies things (Packet packet) (Governed source destination)
  unfolding source_found endpoints_of
  found_from = refl

  pub found_for : HasRulingsOfThings things (Packet packet) (Governed source destination)
      → found_at policies To destination (thing_at (destination_of packet.octets) things) ≡ destination_found policies things (Packet packet) (Governed source destination)
  unfolding destination_found endpoints_of destination_thing
  found_for has = alike policies destination (thing_at (destination_of packet.octets) things) (is_group (destination_of packet.octets)) has
