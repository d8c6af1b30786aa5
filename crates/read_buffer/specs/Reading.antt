-- What is taken of a source, and what that makes of the packets to come.
use Rattle.std.specs.Prelude.{◌≡◌, ◌⊎◌, ℕ, Bool, IsTrue, List, [], ◌++◌, IfSome}
use Rattle.mud_world.specs.Door.{DoorState, Took}
use Rattle.read_buffer.specs.Packets.{Told, broken}

-- what is made of the octets held and of what comes behind them
abbrev pub behind : {F : Type 0} → (List ℕ → Told F) → List ℕ → List ℕ → Told F
behind packets held octets = packets (held ++ octets)

-- Octets were taken of the source and are held behind those that were.
pub record Fetched (before after : List ℕ) (old new : DoorState) : Type 0 where
  pub octets : List ℕ
  pub took : Took octets old new
  pub held : after ≡ before ++ octets

-- Octets were taken of the source. However it goes on, the packets that were to come are those that are to come now.
pub record Follows {F : Type 0} (before after : List ℕ → Told F) (old new : DoorState) : Type 0 where
  pub octets : List ℕ
  pub took : Took octets old new
  pub same : (more : List ℕ) → before (octets ++ more) ≡ after more

-- Octets were taken of the source, and no packet comes in them. Nor does one come in all that is left, but this fault; or the
-- source failed, and so far nothing was wrong with the octets but that they end.
pub record EndsIn {F : Type 0} (is_read_fault is_cut : F → Bool) (fault : F) (before : List ℕ → Told F) (old new : DoorState) : Type 0 where
  pub octets : List ℕ
  pub took : Took octets old new
  pub none : (before octets).all ≡ []
  pub cause : (before (octets ++ new.left) ≡ broken fault) ⊎ (IsTrue (is_read_fault fault) × IfSome (before octets).fault (λ found. IsTrue (is_cut found)))
