-- Parts of definitions that lemmas speak of.
use Rattle.mud_world.specs.Door.{Connection, DoorState}

abbrev pub connection_here : DoorState → Connection
connection_here s = record { left = s.left; written = s.written }

-- the same but for the connection
abbrev pub with_here : Connection → DoorState → DoorState
with_here c s = record s { left = c.left; written = c.written }
