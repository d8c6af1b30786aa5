-- What `hear` answers to a message.
use Rattle.std.specs.Prelude.{ℕ, nat_lt, true, false, List, Result, Ok, Err, if◌then◌else◌, codes}
use Rattle.dhcp_lldp.specs.declared.heard.Heard.{Heard}
use Rattle.dhcp_lldp.specs.declared.heard.HearFault.{HearFault}
use Rattle.mud_cli.specs.Hear.Lines.{heard_line, fault_line}
use Rattle.mud_cli.specs.declared.answer.Answer.{Answer}

-- the answer to a message that was read or refused
unfoldable pub hearing : Result Heard HearFault → Answer
hearing (Ok heard) = record { text = heard_line heard; refused = false }
hearing (Err fault) = record { text = fault_line fault; refused = true }

-- no message has more than 65,535 octets (RFC 768: the length of a datagram is a number of 16 bits)
unfoldable pub hearing_within : ℕ → Result Heard HearFault → Answer
hearing_within count read = if nat_lt 65535 count then (record { text = codes "fault Long\n"; refused = true }) else hearing read
