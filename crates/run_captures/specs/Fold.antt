-- The lines of packets, each by a step from the state that the packets before it left.
use Rattle.std.specs.Prelude.{◌≡◌, ℕ, List, [], ◌∷◌, ◌++◌}
use Rattle.read_buffer.specs.Packets.{Packet}

-- what a step makes of a packet: its line, and the state behind it
pub record LineStep (S : Type 0) : Type 0 where
  pub line : List ℕ
  pub next : S

-- the lines of packets, from a state on
abbrev pub lines_from : {S : Type 0} → (S → Packet → LineStep S) → S → List Packet → List ℕ
lines_from step s [] = []
lines_from step s (packet ∷ packets) = (step s packet).line ++ lines_from step (step s packet).next packets

-- the state behind packets
abbrev pub state_after : {S : Type 0} → (S → Packet → LineStep S) → S → List Packet → S
state_after step s [] = s
state_after step s (packet ∷ packets) = state_after step (step s packet).next packets

-- it keeps what some packets leave behind this state
pub record IsLeftBy {S : Type 0} (keeps : S → Type 0) (step : S → Packet → LineStep S) (s : S) : Type 0 where
  pub packets : List Packet
  pub kept : keeps (state_after step s packets)

-- no lines at the end of the packets
abbrev pub no_ending : {S : Type 0} → S → List ℕ
no_ending s = []

-- It makes the same of packets that differ in their offset alone.
abbrev pub LooksAtNoOffset : {S : Type 0} → (S → Packet → LineStep S) → Type 0
LooksAtNoOffset {S} step = (s : S) (p q : Packet) → p.number ≡ q.number → p.seconds ≡ q.seconds → p.octets ≡ q.octets → step s p ≡ step s q
