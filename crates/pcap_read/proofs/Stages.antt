-- The stages of a reader.
use Rattle.std.proofs.Common.{◌≡◌, ℕ, false, List, [], Option, Some, None, is_some, refl, ap, ◌∙◌}
use Rattle.mud_world.specs.Door.{DoorState}
use Rattle.mud_base.specs.declared.number.ByteOrder.{ByteOrder}
use Rattle.pcap_read.specs.declared.stage.Stage.{Stage}
use Rattle.pcap_read.specs.declared.stage.Stage.TheVariants.{Reading}
use Rattle.pcap_read.specs.declared.stage.Progress.{Progress}
use Rattle.read_buffer.specs.Packets.{Packet, whole}
use Rattle.pcap_read.specs.Packets.{Packets}
use Rattle.pcap_read.specs.Parts.{coming, coming_at}
use Rattle.pcap_read.proofs.Steps.{head_none}
use Rattle.read_buffer.specs.Reading.{Follows}

at_stage : Progress → List ℕ → Stage → Packets
at_stage progress octets stage = coming_at stage progress.count progress.offset octets

all_at : Progress → List ℕ → Stage → List Packet
all_at progress octets stage = (coming_at stage progress.count progress.offset octets).all

pub follows_as : (f g h : List ℕ → Packets) (s t : DoorState) → Follows f g s t → ((more : List ℕ) → g more ≡ h more) → Follows f h s t
follows_as f g h s t p same = record { octets = p.octets; took = p.took; same = λ more. p.same more ∙ same more }

-- a reader between two packets, at the end of the octets
pub stopped : (progress : Progress) (order : ByteOrder) → progress.stage ≡ Reading order → coming progress [] ≡ whole
unfolding at_stage
stopped progress order reading = ap (at_stage progress []) reading ∙ head_none order progress.count progress.offset

pub none_from : {A : Type 0} (found : Option A) → is_some found ≡ false → found ≡ None
none_from None e = refl
none_from (Some a) e = cc
