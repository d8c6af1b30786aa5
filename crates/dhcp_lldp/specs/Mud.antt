-- A MUD string that a message carries (RFC 8520, sections 10 and 12).
use Rattle.std.specs.Prelude.{ℕ, List, Option, Some, None, Result, Ok, Err}
use Rattle.mud_base.specs.declared.addr.Mac.{Mac}
use Rattle.mud_url.specs.declared.fault.UrlFault.{UrlFault}
use Rattle.mud_url.specs.Url.{string_of}
use Rattle.dhcp_lldp.specs.declared.heard.Heard.{Heard}
use Rattle.dhcp_lldp.specs.declared.heard.Heard.TheVariants as heard
use Rattle.dhcp_lldp.specs.declared.heard.HearFault.{HearFault}
use Rattle.dhcp_lldp.specs.declared.heard.HearFault.TheVariants as faults

-- what the string says, where there is one
unfoldable pub announced : Mac → Option (List ℕ) → Result Heard HearFault
announced mac None = Ok heard.Nothing
announced mac (Some string) = announced_url mac (string_of string)
  where
    -- what the reading of the string says
    announced_url : Mac → Result (List ℕ) UrlFault → Result Heard HearFault
    announced_url mac (Ok url) = Ok (heard.Url mac url)
    announced_url mac (Err fault) = Err (faults.Url fault)
