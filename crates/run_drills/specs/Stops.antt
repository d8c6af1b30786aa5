-- Why a drill ends before all its commands ran, or before its lines were made.
use Rattle.std.specs.Prelude.{ℕ, Bool, true, false, Result, Ok, Err}
use Rattle.desk_model.specs.declared.reply.Reply.{Reply}
use Rattle.desk_model.specs.declared.reply.Reply.TheVariants as reply
use Rattle.run_drills.specs.declared.stop.Stop.{Stop}
use Rattle.run_drills.specs.declared.stop.Stop.TheVariants.{Keeper, Memory}

-- whether the keeper failed
abbrev pub has_keeper_failed : Stop → Bool
has_keeper_failed Keeper = true
has_keeper_failed Memory = false

-- the status of a drill that ends so
abbrev pub status_at : Stop → ℕ
status_at Keeper = 7
status_at Memory = 5

-- what a reply means for the drill: one that is refused changes nothing, and the drill goes on
abbrev pub stop_of : Reply → Result (Unit {0}) Stop
stop_of (reply.Done outcome) = Ok tt
stop_of (reply.Refused refusal) = Ok tt
stop_of reply.Keeper = Err Keeper
stop_of reply.Memory = Err Memory
