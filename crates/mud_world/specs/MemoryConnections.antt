-- The connections of a door in memory, and where it stands among them.
use Rattle.std.specs.Prelude.{ℕ, Bool, true, false, List, [], ◌∷◌, map, take, drop, Option, None}
use Rattle.std.specs.List.{concat}
use Rattle.mud_world.specs.Door.{Connection, DoorState}
use Rattle.mud_world.specs.Wire.{WireState, connection_of}

-- the connections that were given these pieces
abbrev pub connections_of : List (List (List ℕ)) → List WireState → List Connection
connections_of [] wires = []
connections_of (p ∷ ps) [] = []
connections_of (p ∷ ps) (w ∷ ws) = connection_of p w ∷ connections_of ps ws

-- a door at the first of the connections that come
abbrev pub entered : Option ℕ → List Connection → List Connection → DoorState
entered bound past [] = record { bound = bound; stands = true; past = past; left = []; written = []; ahead = [] }
entered bound past (c ∷ cs) = record { bound = bound; stands = true; past = past; left = c.left; written = c.written; ahead = cs }

-- a door at the connection of that index, or before it
abbrev pub state_at : Option ℕ → Bool → ℕ → List Connection → DoorState
state_at bound true at cs = entered bound (take at cs) (drop at cs)
state_at bound false at cs = record { bound = bound; stands = false; past = take at cs; left = []; written = []; ahead = drop at cs }

-- a connection of which nothing was taken, and to which nothing was written
abbrev pub new_connection : List (List ℕ) → Connection
new_connection pieces = record { left = concat pieces; written = [] }

-- a door that wasn't bound, at the first connection
abbrev pub first_state : List (List (List ℕ)) → DoorState
first_state inputs = entered None [] (map new_connection inputs)

abbrev pub room_of : WireState → ℕ
room_of wire = wire.room
