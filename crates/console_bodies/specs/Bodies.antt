-- What a request asks for by its body, or what is wrong with the body.
use Rattle.std.specs.Prelude.{ℕ, Bool, true, false, List, Option, Some, None, Result, Ok, Err}
use Rattle.mud_base.specs.Readings.{answer, and_then}
use Rattle.dhcp_lldp.specs.declared.heard.Heard.{Heard}
use Rattle.dhcp_lldp.specs.declared.heard.Heard.TheVariants as message
use Rattle.dhcp_lldp.specs.declared.heard.HearFault.{HearFault}
use Rattle.dhcp_lldp.specs.Dhcp.{heard_of}
use Rattle.dhcp_lldp.specs.Lldp.{lldp_of}
use Rattle.desk_model.specs.declared.command.Command.{Command}
use Rattle.desk_model.specs.declared.command.Command.TheVariants as command
use Rattle.console_routes.specs.declared.action.Statement.{Statement}
use Rattle.console_routes.specs.declared.action.Action.{Action}
use Rattle.console_routes.specs.declared.action.Action.TheVariants.{HearDhcp, HearLldp, List as ListRows, State, Import, Judge, Why}
use Rattle.console_bodies.specs.declared.fault.BodyFault.{BodyFault}
use Rattle.console_bodies.specs.declared.fault.BodyFault.TheVariants as fault
use Rattle.console_bodies.specs.Objects.{object_of}
use Rattle.console_bodies.specs.declared.asked.Asked.{Asked}
use Rattle.console_bodies.specs.declared.asked.Asked.TheVariants as asked
use Rattle.console_bodies.specs.Statements.{command_at}

-- the command that takes what was heard
unfoldable pub heard_command : Heard → Option Command
heard_command (message.Url mac url) = Some (command.HearUrl mac url)
heard_command (message.Lease mac address seconds) = Some (command.HearLease mac address seconds)
heard_command message.Nothing = None

abbrev pub heard_body : Result Heard HearFault → Result Asked BodyFault
heard_body (Ok heard) = Ok (asked.Heard heard)
heard_body (Err refusal) = Err (fault.Heard refusal)

unfoldable pub stated_body : Statement → List ℕ → Result Asked BodyFault
stated_body statement octets = and_then (stated statement octets) (λ c. Ok (asked.Command c))
  where
    -- the command that a JSON object states
    stated : Statement → List ℕ → Result Command BodyFault
    stated statement octets = and_then (object_of octets) (λ d. answer (command_at statement d))

-- A message, a usage file and a frame are the octets of the body themselves. A file was fetched at the moment of the
-- request. A listing looks at no body.
unfoldable pub body_of : Action → List ℕ → ℕ → Result Asked BodyFault
body_of HearDhcp octets now = heard_body (heard_of octets)
body_of HearLldp octets now = heard_body (lldp_of octets)
body_of (ListRows listing) octets now = Ok (asked.List listing)
body_of (State statement) octets now = stated_body statement octets
body_of Import octets now = Ok (asked.Command (command.Import octets now))
body_of Judge octets now = Ok asked.Judge
body_of Why octets now = Ok asked.Why

-- memory is taken to read a body as JSON, and to keep its octets
unfoldable pub takes_memory : Action → Bool
takes_memory HearDhcp = false
takes_memory HearLldp = false
takes_memory (ListRows listing) = false
takes_memory (State statement) = true
takes_memory Import = true
takes_memory Judge = false
takes_memory Why = false
