-- Octets that came of a door.
use Rattle.std.specs.Prelude.{◌≡◌, ℕ, List, ◌++◌}
use Rattle.mud_world.specs.Door.{DoorState, Took}

-- Octets were added behind those that were there.
pub record Grown (before after : List ℕ) : Type 0 where
  pub more : List ℕ
  pub held : after ≡ before ++ more

-- Octets were taken of the connection, and came behind those that were there.
pub record Received (before after : List ℕ) (old new : DoorState) : Type 0 where
  pub taken : List ℕ
  pub took : Took taken old new
  pub held : after ≡ before ++ taken
