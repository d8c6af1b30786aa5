-- The packets of a capture, in whichever format.
use Rattle.std.specs.Prelude.{ℕ, List, [], ◌∷◌, ◌++◌, Option, Some, None}

-- a packet: its number, counted from 1, its offset, its seconds and its octets
pub record Packet : Type 0 where
  pub number : ℕ
  pub offset : ℕ
  pub seconds : ℕ
  pub octets : List ℕ

-- the packets of a capture, and the fault that ends them, where they don't end with the octets
pub record Told (F : Type 0) : Type 0 where
  pub all : List Packet
  pub fault : Option F

abbrev pub whole : {F : Type 0} → Told F
whole = record { all = []; fault = None }

abbrev pub broken : {F : Type 0} → F → Told F
broken fault = record { all = []; fault = Some fault }

abbrev pub with_packet : {F : Type 0} → Packet → Told F → Told F
with_packet first later = record { all = first ∷ later.all; fault = later.fault }

-- with the packet that was given, if any
abbrev pub with_next : {F : Type 0} → Option Packet → Told F → Told F
with_next None later = later
with_next (Some first) later = with_packet first later

-- with packets in front of those
abbrev pub with_all : {F : Type 0} → List Packet → Told F → Told F
with_all packets later = record { all = packets ++ later.all; fault = later.fault }
