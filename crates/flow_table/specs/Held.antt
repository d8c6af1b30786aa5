-- What a table of connections holds: two generations of slots, and what it keeps by them.
use Rattle.std.specs.Prelude.{◌≡◌, ℕ, ◌+◌, ◌≤◌, Bool, false, ◌&&◌, nat_le, IsTrue, List, ◌∷◌, Option, Some, None, IsSome}
use Rattle.std.specs.List.{list_any}
use Rattle.std.specs.Option.{is_none}
use Rattle.std.specs.Map.{lookup}
use Rattle.std.specs.BTreeMap.{is_at}
use Rattle.table_model.specs.History.{Endpoint, Begun}
use Rattle.table_model.specs.Limits.{most}
use Rattle.table_model.specs.declared.segment.Segment.{Segment}
use Rattle.flow_table.specs.Kept.{Flows, StandsFor, kept_after}
use Rattle.flow_table.specs.Keys.{Key, key_cmp, key_of}

-- The moment of the last packet, the moment at which the younger generation was begun, whether memory for one connection
-- more is ready, and the slots of both generations.
pub record Held : Type 0 where
  pub last : Option ℕ
  pub since : ℕ
  pub has_room : Bool
  pub younger : List (Key × Option Begun)
  pub elder : List (Key × Option Begun)

-- the slots of a generation, with the one that stands apart, if there is one
unfoldable pub with_newest : Option (Key × Option Begun) → List (Key × Option Begun) → List (Key × Option Begun)
with_newest None slots = slots
with_newest (Some newest) slots = newest ∷ slots

-- a table of these parts
abbrev pub held_of : Option ℕ → ℕ → Option (Key × Option Begun) → List (Key × Option Begun) → List (Key × Option Begun) → Held
held_of last since newest younger elder = record { last = last; since = since; has_room = is_none newest; younger = with_newest newest younger; elder = elder }

-- the slot of a key in a generation
unfoldable pub slot_at : List (Key × Option Begun) → Key → Option (Option Begun)
slot_at slots key = lookup (is_at (key_cmp key)) slots

unfoldable pub filled : Option (Option Begun) → Option Begun
filled None = None
filled (Some begun) = begun

-- what the slot in the younger generation has, else that in the elder one
unfoldable pub slot_first : Option (Option Begun) → Option (Option Begun) → Option Begun
slot_first (Some begun) elder = begun
slot_first None elder = filled elder

unfoldable pub held_at : Held → Key → Option Begun
held_at held key = slot_first (slot_at held.younger key) (slot_at held.elder key)

unfoldable pub held_between : Held → Endpoint → Endpoint → Option Begun
held_between held a b = held_at held (key_of a b)

unfoldable pub flows_of : Held → Flows
flows_of held = record { last = held.last; kept = held_between held }

-- the moment isn't behind that of the last packet
abbrev pub IsNoted : Option ℕ → ℕ → Type 0
IsNoted None at = ⊥
IsNoted (Some last) at = at ≤ last

-- Where a generation that was begun at this moment may stand: at 0 before any packet; then at the moment of the last one
-- or before it, by no more than a connection may be silent.
abbrev pub BeginsInTime : Option ℕ → ℕ → Type 0
BeginsInTime None since = since ≡ 0
BeginsInTime (Some last) since = (since ≤ last) × (last ≤ since + most.pause)

-- Nothing in the elder generation is later than the beginning of the younger one, and nothing is later than the last
-- packet, behind which the younger one was begun no longer ago than a connection may be silent.
pub record IsSound (held : Held) : Type 0 where
  pub begun : BeginsInTime held.last held.since
  pub elder : (key : Key) (begun : Begun) → slot_at held.elder key ≡ Some (Some begun) → begun.1 ≤ held.since
  pub noted : (key : Key) (begun : Begun) → slot_at held.elder key ≡ Some (Some begun) → IsNoted held.last begun.1
  pub younger : (key : Key) (begun : Begun) → slot_at held.younger key ≡ Some (Some begun) → IsNoted held.last begun.1

-- the packet has this key, and is of a generation that was begun at this moment: no earlier, and no later than a
-- connection may be silent
unfoldable pub is_of_generation : ℕ → Key → Segment → Bool
is_of_generation since key p = is_at (key_cmp key) (key_of p.source p.destination) && (nat_le since p.at && nat_le p.at (since + most.pause))

-- each key that has a slot has a packet in the history that is of the generation begun at this moment
abbrev pub AreOfGeneration : List Segment → ℕ → List (Key × Option Begun) → Type 0
AreOfGeneration history since slots = (key : Key) → IsSome (slot_at slots key) → IsTrue (list_any (is_of_generation since key) history)

-- The table answers as the list of all packets that were noted does. Each connection that has a slot had a packet in the
-- time of its generation: of the younger one from its beginning on, of the elder one from one moment before.
pub record HoldsAll (history : List Segment) (held : Held) : Type 0 where
  pub sound : IsSound held
  pub stands : StandsFor history (flows_of held)
  pub recent : AreOfGeneration history held.since held.younger
  pub elder : (before : ℕ) × AreOfGeneration history before held.elder

-- the slot of this key has what is kept after the packet, and each other slot stays
pub record IsWritten (key : Key) (p : Segment) (before : List (Key × Option Begun)) (after : List (Key × Option Begun)) : Type 0 where
  pub here : (begun : Option Begun) → slot_at before key ≡ Some begun → slot_at after key ≡ Some (kept_after p begun)
  pub others : (other : Key) → is_at (key_cmp key) other ≡ false → slot_at after other ≡ slot_at before other
