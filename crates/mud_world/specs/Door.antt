-- The connections of a door, and what each call makes of them.
use Rattle.std.specs.Prelude.{◌≡◌, ℕ, ◌<◌, Bool, true, false, if◌then◌else◌, List, [], ◌∷◌, ◌++◌, length, take, map, Option, Some, Result, IfOk}

-- A connection: the octets that can still be read of it, and those that were written to it.
pub record Connection : Type 0 where
  pub left : List ℕ
  pub written : List ℕ

-- The port that the door is bound to, where it is bound to one, the connections that it has left behind, the one at which it stands
-- (two empty lists where it stands at none), and those that come.
pub record DoorState : Type 0 where
  pub bound : Option ℕ
  pub stands : Bool
  pub past : List Connection
  pub left : List ℕ
  pub written : List ℕ
  pub ahead : List Connection

-- that connection as a list, empty where the door stands at none
abbrev pub here : DoorState → List Connection
here s = (if s.stands then connection_here s ∷ [] else [])
  where
    -- the octets of the connection at which the door stands
    connection_here : DoorState → Connection
    connection_here s = record { left = s.left; written = s.written }

-- all connections, in order
abbrev pub connections : DoorState → List Connection
connections s = s.past ++ here s ++ s.ahead

abbrev pub written_of : Connection → List ℕ
written_of c = c.written

-- what was written to each connection, in order
abbrev pub outputs : DoorState → List (List ℕ)
outputs s = map written_of (connections s)

-- the door has left its connection, and stands at none
abbrev pub departed : DoorState → DoorState
departed s = record { bound = s.bound; stands = false; past = s.past ++ here s; left = []; written = []; ahead = s.ahead }

-- the door has gone on to the first of the connections that come, if there is one
abbrev pub gone_on : DoorState → List Connection → DoorState
gone_on s [] = departed s
gone_on s (c ∷ cs) = record { bound = s.bound; stands = true; past = s.past ++ here s; left = c.left; written = c.written; ahead = cs }

abbrev pub has_more : List Connection → Bool
has_more [] = false
has_more (c ∷ cs) = true

-- the door is bound to the port, and stands before the connection at which it stood
abbrev pub bound_anew : ℕ → DoorState → DoorState
bound_anew port s = record { bound = Some port; stands = false; past = s.past; left = []; written = []; ahead = here s ++ s.ahead }

-- the same but for what is left of the connection
abbrev pub with_left : List ℕ → DoorState → DoorState
with_left left s = record s { left = left }

-- The octets were taken from the front of what was left, and nothing else changed.
pub record Took (octets : List ℕ) (old new : DoorState) : Type 0 where
  pub left : old.left ≡ octets ++ new.left
  pub rest : new ≡ with_left new.left old

-- the octets were written behind what was written before
abbrev pub put_out : List ℕ → DoorState → DoorState
put_out octets s = record s { written = s.written ++ octets }

-- What a read that answered n makes of the door. It answers 0 only for an empty buffer or at the end.
abbrev pub Reads : {E : Type 0} → DoorState → DoorState → Result ℕ E → List ℕ → Type 0
Reads old new result buf = IfOk result (λ n. Took (take n buf) old new × (n ≡ 0 → 0 < length buf → old.left ≡ []))
