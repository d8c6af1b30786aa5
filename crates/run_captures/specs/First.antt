-- The first octets of a connection.
use Rattle.std.specs.Prelude.{◌≡◌, ℕ, ◌<◌, ◌≤◌, List, [], length}
use Rattle.mud_world.specs.Door.{DoorState, Took}

-- The first octets are those of the connection: four, or all of them.
pub record ReadsFirst (first : List ℕ) (old new : DoorState) : Type 0 where
  pub took : Took first old new
  pub four : length first ≤ 4
  pub short : length first < 4 → new.left ≡ []
