-- What was taken of a connection's pieces, and what was written to it.
use Rattle.std.specs.Prelude.{◌≡◌, ℕ, ◌-◌, min, take, List, [], ◌∷◌, length, drop, nat_lt, if◌then◌else◌}
use Rattle.std.specs.List.{concat}
use Rattle.mud_world.specs.Door.{Connection}

-- The pieces before this one were taken whole, and so many octets of what follows. At most `room` octets can be written.
pub record WireState : Type 0 where
  pub piece : ℕ
  pub offset : ℕ
  pub written : List ℕ
  pub room : ℕ

-- nothing was taken or written
abbrev pub fresh : ℕ → WireState
fresh room = record { piece = 0; offset = 0; written = []; room = room }

-- the octets that are left of pieces, behind so many
abbrev pub left_of : ℕ → List (List ℕ) → List ℕ
left_of offset pieces = drop offset (concat pieces)

-- those of them that stand in the first piece that has any
abbrev pub rest_of : ℕ → List (List ℕ) → List ℕ
rest_of offset [] = []
rest_of offset (p ∷ ps) = if nat_lt offset (length p) then drop offset p else rest_of (offset - length p) ps

-- the connection that was given these pieces
abbrev pub connection_of : List (List ℕ) → WireState → Connection
connection_of pieces wire = record { left = left_of wire.offset (drop wire.piece pieces); written = wire.written }

-- What a read of n octets into the front of a buffer makes of a wire: they come from the first piece that has any, as many as fit.
pub record WireRead (pieces : List (List ℕ)) (old new : WireState) (n : ℕ) (buf : List ℕ) : Type 0 where
  pub count : n ≡ min (length buf) (length (rest_of old.offset (drop old.piece pieces)))
  pub octets : take n buf ≡ take n (rest_of old.offset (drop old.piece pieces))
  pub left : left_of new.offset (drop new.piece pieces) ≡ drop n (left_of old.offset (drop old.piece pieces))
  pub written : new.written ≡ old.written
  pub room : new.room ≡ old.room
