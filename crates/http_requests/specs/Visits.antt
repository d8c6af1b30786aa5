-- Connections that were served one after the other.
use Rattle.std.specs.Prelude.{◌≡◌, ℕ, ◌+◌, ◌-◌, ◌^◌, ◌<◌, ◌≤◌, min, zero, suc, Bool, true, false, IsTrue, List, [], ◌∷◌, ◌++◌, length, map, count_by, None}
use Rattle.mud_world.specs.Causes.{Counts, RoseBy, StopsAtFailure}
use Rattle.mud_world.specs.Door.{Connection, DoorState, here}
use Rattle.mud_world.specs.View.{DoorView}
use Rattle.http_requests.specs.declared.fault.RequestFault.{RequestFault}
use Rattle.http_requests.specs.declared.fault.MomentFrom.{MomentFrom}
use Rattle.http_requests.specs.declared.end.ConnectionEnd.{ConnectionEnd}
use Rattle.http_requests.specs.Asked.{Asked}
use Rattle.http_requests.specs.Ends.{ServedBy, is_read_failed, is_write_failed}

-- A connection as it came and as it was left, and how its service ended.
pub record Visit : Type 0 where
  pub before : Connection
  pub after : Connection
  pub end : ConnectionEnd

-- a door that stands at this connection and has no other
abbrev pub alone : Connection → DoorState
alone c = record { bound = None; stands = true; past = []; left = c.left; written = c.written; ahead = [] }

-- What calls, of which so many failed, make of the count of their failures: it rises by at least as many, or stands at its last value,
-- and where none failed it is as it was.
pub record CountsOf (failures before now : ℕ) : Type 0 where
  pub later : before ≤ now
  pub rose : RoseBy failures before now
  pub steady : failures ≡ 0 → now ≡ before

-- what calls, of which so many failed, make of the count of their failures: it rises by one for each, and stops at its last value
abbrev pub count_behind : ℕ → ℕ → ℕ
count_behind zero before = before
count_behind (suc failures) before = min (before + suc failures) (2 ^ 64 - 1)

-- What serving connection after connection makes of the counts of a door's failures: one failure to go on ends it, as the last call
-- of the door, and the counts of failed reads and writes never fall.
pub record TakesTurns (failed : Bool) (old new : DoorView) : Type 0 where
  pub turns : Counts failed old.turns new.turns
  pub stop : IsTrue failed → StopsAtFailure new.failed old.turns new.turns
  pub reads : old.reads ≤ new.reads
  pub writes : old.writes ≤ new.writes

-- What requests may be answered, and what the answers to faults are; where moments come from.
module _ {S : Type 0} (may : S → Asked → List ℕ → S → Type 0) (refusal : RequestFault → List ℕ) (from : MomentFrom) where
  -- The connections were served one after the other, each from the state behind the one before it.
  abbrev pub AreServed : S → S → List Visit → Type 0
  AreServed s t [] = s ≡ t
  AreServed s t (v ∷ visits) = (mid : S) × ServedBy may refusal from v.end s mid (alone v.before) (alone v.after) × AreServed mid t visits

  -- The first of the connections that were to come were served from the state on, and what is kept is the state behind them. The door
  -- has left them, but for the last one where it still stands there, and the others still come.
  pub record Visited (keeps : S → Type 0) (s : S) (visits : List Visit) (old new : DoorState) : Type 0 where
    pub next : S
    pub kept : keeps next
    pub served : AreServed s next visits
    pub came : old.ahead ≡ map (λ (v : Visit). v.before) visits ++ new.ahead
    pub past : new.past ++ here new ≡ (old.past ++ here old) ++ map (λ (v : Visit). v.after) visits
    pub bound : new.bound ≡ old.bound

-- The visits are as many as were asked for, or all that came; fewer where the door failed to go on.
pub record AreEnough (failed : Bool) (count : ℕ) (visits : List Visit) (old : DoorState) : Type 0 where
  pub all : failed ≡ false → length visits ≡ min count (length old.ahead)
  pub fewer : IsTrue failed → length visits < count

module _ {S : Type 0} (may : S → Asked → List ℕ → S → Type 0) (refusal : RequestFault → List ℕ) (from : MomentFrom) where
  -- Connections were served: which ones, how many, and what became of the counts of failed reads and writes.
  pub record ServedInTurn (keeps : S → Type 0) (failed : Bool) (count : ℕ) (s : S) (old new : DoorView) : Type 0 where
    pub visits : List Visit
    pub visited : Visited may refusal from keeps s visits old.state new.state
    pub enough : AreEnough failed count visits old.state
    pub reads : new.reads ≡ count_behind (count_by (λ (v : Visit). is_read_failed v.end) visits) old.reads
    pub writes : new.writes ≡ count_behind (count_by (λ (v : Visit). is_write_failed v.end) visits) old.writes
