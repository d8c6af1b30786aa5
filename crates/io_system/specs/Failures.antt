-- What a door or a spool keeps of the call that failed last.
use Rattle.std.specs.Prelude.{◌≡◌, Bool, true, false, Option, Some, option_map}
use Rattle.io_system.specs.declared.failure.Call.{Call}
use Rattle.io_system.specs.declared.failure.Failure.{Failure}

-- which call failed
abbrev pub failed_call : Option Failure → Option Call
failed_call failure = option_map (λ kept. kept.call) failure

-- After a call that failed, it is that call, and after any other one what it was before.
abbrev pub Notes : Bool → Call → Option Failure → Option Failure → Type 0
Notes true call before after = failed_call after ≡ Some call
Notes false call before after = after ≡ before
