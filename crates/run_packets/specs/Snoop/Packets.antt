-- What packets lead to, one after the other, in a session.
use Rattle.std.specs.Prelude.{◌≡◌, ℕ, nat_lt, Bool, List, [], ◌∷◌, ◌++◌, length, take, option_map}
use Rattle.mud_world.specs.Causes.{RoseBy}
use Rattle.frame_view.specs.Frame.{frame_of}
use Rattle.read_buffer.specs.Packets.{Packet}
use Rattle.desk_model.specs.Sessions.{Session, Runs}
use Rattle.run_desk.specs.Judged.{judged_packet}
use Rattle.dns_snoop.specs.Messages.{answers_of}
use Rattle.run_packets.specs.Snoop.Entries.{Entry, packets_of, calls_of, entry_lines, NoneOfMemory, failures, keeper_count}
use Rattle.run_packets.specs.Snoop.Learning.{heard_in}

-- the session behind the verdict on a packet
abbrev pub session_behind : Session → Packet → Session
session_behind session packet = (judged_packet session packet).session

-- The verdict is that of the session, and what is heard is heard by the classes of its desk.
pub record IsJudgedIn (session : Session) (entry : Entry) : Type 0 where
  pub verdict : entry.verdict ≡ (judged_packet session entry.packet).verdict
  pub heard : entry.heard ≡ option_map answers_of (heard_in session.desk.tables.classes (frame_of entry.packet.octets) entry.verdict)

-- The packet is judged, and then each address is observed at the moment of the session behind it.
pub record SnoopsPacket (before : Session) (entry : Entry) (after : Session) : Type 0 where
  pub judged : IsJudgedIn before entry
  pub run : Runs (session_behind before entry.packet) (calls_of (session_behind before entry.packet).moment entry.heard) entry.replies after
  pub told : NoneOfMemory entry.replies

-- The same with some of the addresses, from the first on.
pub record SnoopsSome (before : Session) (entry : Entry) (after : Session) : Type 0 where
  pub judged : IsJudgedIn before entry
  pub run : Runs (session_behind before entry.packet) (take (length entry.replies) (calls_of (session_behind before entry.packet).moment entry.heard)) entry.replies after
  pub told : NoneOfMemory entry.replies

-- packets one after the other
abbrev pub Snoops : Session → List Entry → Session → Type 0
Snoops before [] after = after ≡ before
Snoops before (entry ∷ entries) after = (next : Session) × SnoopsPacket before entry next × Snoops next entries after

-- none, or one packet of whose addresses some were observed
abbrev pub Stops : Session → List Entry → Session → Type 0
Stops before [] after = after ≡ before
Stops before (entry ∷ []) after = SnoopsSome before entry after
Stops before (entry ∷ other ∷ entries) after = ⊥

-- A packet was judged and learnt from, and its lines were added.
pub record GoesOn (packet : Packet) (before after : Session) (old new : List ℕ) (faults faults_after : ℕ) (failed : Bool) : Type 0 where
  pub entry : Entry
  pub packet_is : entry.packet ≡ packet
  pub may : SnoopsPacket before entry after
  pub added : new ≡ old ++ entry_lines entry
  pub failed_is : failed ≡ nat_lt 0 (failures entry.replies)
  pub paid : RoseBy (failures entry.replies) faults faults_after

-- Memory was wanted at a packet: it wasn't judged, or some of its addresses were observed.
pub record StopsAt (packet : Packet) (before after : Session) (faults faults_after : ℕ) : Type 0 where
  pub last : List Entry
  pub rest : List Packet
  pub packets_are : packets_of last ++ rest ≡ packet ∷ []
  pub stopped : Stops before last after
  pub paid : RoseBy (keeper_count last) faults faults_after
