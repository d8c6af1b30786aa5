-- The output for an input that is read as a whole.
use Rattle.std.specs.Prelude.{ℕ, List, if◌then◌else◌, length}
use Rattle.mud_file.specs.File.{file_of}
use Rattle.run_common.specs.Output.{Output}
use Rattle.mud_cli.specs.Check.Answer.{checking}
use Rattle.mud_cli.specs.declared.answer.Answer.{Answer}
use Rattle.mud_cli.specs.declared.answer.Input.{Input}
use Rattle.mud_cli.specs.declared.answer.Input.TheVariants as input
use Rattle.mud_cli.specs.Hear.Answer.{hearing_within}
use Rattle.dhcp_lldp.specs.Dhcp.{heard_of}
use Rattle.dhcp_lldp.specs.Lldp.{lldp_of}
use Rattle.run_words.specs.declared.command.Message.TheVariants.{Dhcp, Lldp}

-- the most octets that an input has
unfoldable pub most_of : Input → ℕ
most_of (input.Message message) = 65535
most_of input.UsageFile = 262144

unfoldable pub answer_to : Input → List ℕ → Answer
answer_to (input.Message Dhcp) octets = hearing_within (length octets) (heard_of octets)
answer_to (input.Message Lldp) octets = hearing_within (length octets) (lldp_of octets)
answer_to input.UsageFile octets = checking (file_of octets)

-- the output for an input that is read as a whole
abbrev pub output_of_input : Input → List ℕ → Output
output_of_input what octets = record { text = (answer_to what octets).text; status = status_of (answer_to what octets) }
  where
    -- The status is 0 where the input was read to its end, and 3 where it breaks a rule of its reader.
    status_of : Answer → ℕ
    status_of answer = if answer.refused then 3 else 0
