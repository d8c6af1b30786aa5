-- What holds of each body that is read.
use Rattle.std.specs.Prelude.{◌≡◌, ℕ, List, Ok}
use Rattle.desk_model.specs.Commands.{IsAsked}
use Rattle.console_routes.specs.declared.action.Action.{Action}
use Rattle.console_bodies.specs.declared.asked.Asked.{Asked}
use Rattle.console_bodies.specs.declared.asked.Asked.TheVariants as asked
use Rattle.console_bodies.specs.Bodies.{body_of}

-- the command may be given
abbrev pub AsksRightly : Asked → Type 0
AsksRightly (asked.Command c) = IsAsked c
AsksRightly (asked.Heard heard) = Unit {0}
AsksRightly (asked.List listing) = Unit {0}
AsksRightly asked.Judge = Unit {0}
AsksRightly asked.Why = Unit {0}

abbrev pub BodiesAskRightly : Type 0
BodiesAskRightly = (action : Action) (octets : List ℕ) (now : ℕ) (a : Asked) → body_of action octets now ≡ Ok a → AsksRightly a
