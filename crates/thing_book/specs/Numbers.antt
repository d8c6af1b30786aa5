-- The numbers of the hardware addresses of Things, among which a Thing is looked for.
use Rattle.std.specs.Prelude.{◌≡◌, ◌≢◌, ℕ, ◌%◌, ◌<◌, ◌≤◌, List, ◌∷◌, length, map, slice_index}
use Rattle.std.specs.List.{AllByRecursion}
use Rattle.std.specs.Int.{w64, from_be_bytes}
use Rattle.mud_base.specs.Numbers.{IsOctets}
use Rattle.mud_base.specs.declared.addr.Mac.{Mac}
use Rattle.table_model.specs.declared.thing.Thing.{Thing}
use Rattle.table_model.specs.Things.{IsSoundThings}

-- the number that the octets of a hardware address spell, most significant first
abbrev pub mac_number : Mac → ℕ
mac_number mac = from_be_bytes w64 (0 ∷ 0 ∷ mac.0)

abbrev pub thing_number : Thing → ℕ
thing_number thing = mac_number thing.mac

-- a hardware address has six octets
pub record IsMac (mac : Mac) : Type 0 where
  pub six : length mac.0 ≡ 6
  pub octets : IsOctets mac.0

abbrev pub HasMac : Thing → Type 0
HasMac thing = IsMac thing.mac

-- the numbers are those of the Things, in their order
pub record AreNumbersOf (things : List Thing) (numbers : List ℕ) : Type 0 where
  pub numbers_are : numbers ≡ map thing_number things
  pub each : AllByRecursion HasMac things

-- the Things are sound, and these are their numbers
pub record IsSoundBook (things : List Thing) (numbers : List ℕ) : Type 0 where
  pub sound : IsSoundThings things
  pub numbered : AreNumbersOf things numbers

-- no number is less than an earlier one
abbrev pub AreRising : List ℕ → Type 0
AreRising numbers = (i j : ℕ) → i ≤ j → j < length numbers → slice_index numbers i ≤ slice_index numbers j

-- two of so many numbers, the first of these, have this spot: it is left when they are divided by 2,048
pub record IsShared (numbers : List ℕ) (count spot : ℕ) : Type 0 where
  pub one : ℕ
  pub other : ℕ
  pub apart : one < other
  pub within : other < count
  pub of_one : slice_index numbers one % 2048 ≡ spot
  pub of_other : slice_index numbers other % 2048 ≡ spot

-- Of so many numbers, which are the first in their room, each has a spot, by what is left when it is divided by 2,048.
-- There its index stands, or 65,535 exactly where two have the spot, and 65,534 where none has it.
pub record AreSpotted (room spots : List ℕ) (count : ℕ) : Type 0 where
  pub room_is : length room ≡ 512
  pub spots_are : length spots ≡ 2048
  pub within : count ≤ 512
  pub spotted : (k : ℕ) → k < count → slice_index spots (slice_index room k % 2048) ≢ 65535 → slice_index spots (slice_index room k % 2048) ≡ k
  pub own : (s : ℕ) → s < 2048 → slice_index spots s ≢ 65534 → slice_index spots s ≢ 65535 → (slice_index spots s < count) × (slice_index room (slice_index spots s) % 2048 ≡ s)
  pub shared : (s : ℕ) → s < 2048 → slice_index spots s ≡ 65535 → IsShared room count s
