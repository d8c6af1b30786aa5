-- The exit status of each way in which a run ends.
use Rattle.std.specs.Prelude.{◌≡◌, ◌≢◌, ℕ, ◌⊎◌, List, [], ◌∷◌}
use Rattle.run_common.specs.declared.status.Status.{Status}
use Rattle.run_common.specs.declared.status.Status.TheVariants.{Done, Unlisted, Refused, DoorFailed, NoMemory, BadItem, KeeperFailed}

abbrev pub status_number : Status → ℕ
status_number Done = 0
status_number Unlisted = 2
status_number Refused = 3
status_number DoorFailed = 4
status_number NoMemory = 5
status_number BadItem = 6
status_number KeeperFailed = 7

-- it is the number of this status
abbrev pub Is : Status → ℕ → Type 0
Is status number = number ≡ status_number status

abbrev pub IsNot : Status → ℕ → Type 0
IsNot status number = number ≢ status_number status

-- it is the number of one of these
abbrev pub IsOneOf : List Status → ℕ → Type 0
IsOneOf [] number = ⊥
IsOneOf (status ∷ []) number = Is status number
IsOneOf (status ∷ other ∷ more) number = Is status number ⊎ IsOneOf (other ∷ more) number

-- the statuses of a listed line, and those of a command without rules of its own to break
abbrev pub each_status : List Status
each_status = Done ∷ Refused ∷ DoorFailed ∷ NoMemory ∷ BadItem ∷ KeeperFailed ∷ []

abbrev pub each_but_refused : List Status
each_but_refused = Done ∷ DoorFailed ∷ NoMemory ∷ BadItem ∷ KeeperFailed ∷ []
