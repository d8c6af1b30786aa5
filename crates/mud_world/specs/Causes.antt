-- Counts of failed calls. A count stops at the last value of its 64 bits.
use Rattle.std.specs.Prelude.{◌≡◌, ◌⊎◌, ℕ, ◌+◌, ◌-◌, ◌^◌, ◌≤◌, min, Bool, false, IsTrue}

-- The count rose by at least n, or stands at its last value.
abbrev pub RoseBy : ℕ → ℕ → ℕ → Type 0
RoseBy n before now = min (before + n) (2 ^ 64 - 1) ≤ now

abbrev pub Rose : ℕ → ℕ → Type 0
Rose before now = RoseBy 1 before now

-- What a call makes of its count: it never falls, it rises where the call failed, and else stays.
pub record Counts (failed : Bool) (before now : ℕ) : Type 0 where
  pub later : before ≤ now
  pub rose : IsTrue failed → Rose before now
  pub steady : failed ≡ false → now ≡ before

-- A call failed, and it was the last one: the count stands where this failure alone leaves it, and no call came behind.
pub record StopsAtFailure (has_failed : Bool) (before now : ℕ) : Type 0 where
  pub last : IsTrue has_failed
  pub once : now ≡ min (before + 1) (2 ^ 64 - 1)

-- One read or one write failed, and it was the last call of the door. The count of the other stays.
abbrev pub EndsAtFailure : Bool → ℕ → ℕ → ℕ → ℕ → Type 0
EndsAtFailure has_failed reads reads_now writes writes_now =
    (StopsAtFailure has_failed reads reads_now × (writes_now ≡ writes)) ⊎ (StopsAtFailure has_failed writes writes_now × (reads_now ≡ reads))
