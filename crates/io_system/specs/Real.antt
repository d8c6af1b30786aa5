-- Where a real door stands and what can be read and written there, and how often its calls have failed.
use Rattle.std.specs.Prelude.{ℕ, Bool, true, false, List, [], Option, Some, None}
use Rattle.io_system.specs.Ports.{client_octets, is_served}
use Rattle.io_system.specs.declared.door.Place.{Place}
use Rattle.io_system.specs.declared.door.Place.TheVariants.{Standard, Left, Bound}
use Rattle.io_system.specs.declared.door.RealDoor.{RealDoor}
use Rattle.io_system.specs.declared.clock.RealClock.{RealClock}
use Rattle.io_system.specs.declared.spool.RealSpool.{RealSpool}

-- ---- Where a door stands

abbrev pub stands_in : {N S L : Type 0} → Place N S L → Bool
stands_in Standard = true
stands_in Left = false
stands_in (Bound port) = is_served port

-- the port that it was bound to, where it was bound to one
abbrev pub port_in : {N S L : Type 0} → Place N S L → Option ℕ
port_in Standard = None
port_in Left = None
port_in (Bound port) = Some port.number

abbrev pub stands_of : {I O N S L : Type 0} → RealDoor I O N S L → Bool
stands_of door = stands_in door.place

abbrev pub port_of : {I O N S L : Type 0} → RealDoor I O N S L → Option ℕ
port_of door = port_in door.place

-- ---- Its octets, where they are known

-- those of the reader or writer, or of the client, whichever the door stands at
abbrev octets_at : {N S L : Type 0} → Option (List ℕ) → (S → Option (List ℕ)) → Place N S L → Option (List ℕ)
octets_at standard of_client Standard = standard
octets_at standard of_client Left = Some []
octets_at standard of_client (Bound port) = client_octets of_client port.client

-- what can still be read where the door stands
abbrev pub left_of : {I O N S L : Type 0} → (I → Option (List ℕ)) → (S → Option (List ℕ)) → RealDoor I O N S L → Option (List ℕ)
left_of of_input of_client door = octets_at (of_input door.input) of_client door.place

-- what was written where it stands
abbrev pub written_of : {I O N S L : Type 0} → (O → Option (List ℕ)) → (S → Option (List ℕ)) → RealDoor I O N S L → Option (List ℕ)
written_of of_output of_client door = octets_at (of_output door.output) of_client door.place

-- ---- Counts

abbrev pub turns_of : {I O N S L : Type 0} → RealDoor I O N S L → ℕ
turns_of door = door.turns

abbrev pub reads_of : {I O N S L : Type 0} → RealDoor I O N S L → ℕ
reads_of door = door.reads

abbrev pub writes_of : {I O N S L : Type 0} → RealDoor I O N S L → ℕ
writes_of door = door.writes

-- the last moment that a clock gave
abbrev pub last_of : {R : Type 0} → RealClock R → ℕ
last_of clock = clock.last

-- how often a call of a spool has failed
abbrev pub faults_of : {R F D : Type 0} → RealSpool R F D → ℕ
faults_of spool = spool.faults
