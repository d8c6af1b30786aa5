-- What may be replied where nothing is asked for, and of what memory may be wanted.
use Rattle.std.specs.Prelude.{◌≡◌, ℕ, List}
use Rattle.mud_base.specs.declared.refusal.Refusal.{Refusal}
use Rattle.mud_base.specs.declared.refusal.Refusal.TheVariants.{Memory, Broken}
use Rattle.desk_model.specs.Sessions.{Session, IsNoted}
use Rattle.console_bodies.specs.declared.asked.Asked.{Asked}
use Rattle.console_bodies.specs.declared.asked.Asked.TheVariants.{Judge}
use Rattle.console.specs.declared.question.NoQuestion.{NoQuestion}
use Rattle.console.specs.declared.question.NoQuestion.TheVariants.{NoRoute, NoMethod, BadBody}
use Rattle.console.specs.Asks.{refusal_of}
use Rattle.console.specs.Replies.{Reply, no_route, no_method, no_storage, IsOrWanted}

-- only to say what is wrong with a body memory may be wanted
abbrev pub IsToldOf : NoQuestion → Reply → Type 0
IsToldOf NoRoute given = given ≡ no_route
IsToldOf (NoMethod route) given = given ≡ no_method route
IsToldOf (BadBody fault) given = IsOrWanted (refusal_of (BadBody fault)) given

abbrev pub IsRefusalOf : Refusal NoQuestion → Reply → Type 0
IsRefusalOf Memory given = given ≡ no_storage
IsRefusalOf (Broken nothing) given = IsToldOf nothing given

-- of a frame memory may be wanted only where it is added to the history
abbrev pub AskedNeedsMemory : Session → ℕ → List ℕ → Asked → Type 0
AskedNeedsMemory session given octets Judge = IsNoted session given octets
AskedNeedsMemory session given octets _ = Unit {0}
