-- Parts of definitions that lemmas speak of.
use Rattle.std.specs.Prelude.{ℕ, Err, None, Ok, Option, Result, Some, List, option_and_then, is_some, [], nat_le, ◌&&◌, if◌then◌else◌}
use Rattle.mud_url.specs.declared.fault.UrlFault.{UrlFault}
use Rattle.console_bodies.specs.declared.fault.BodyFault.{BodyFault}
use Rattle.desk_model.specs.declared.command.Command.{Command}
use Rattle.console_routes.specs.declared.action.Statement.{Statement}
use Rattle.mud_base.specs.Readings.{and_then, answer, done, ◌>>=◌, refused_where}
use Rattle.console_bodies.specs.Statements.{command_at, verdict_in, class_at, uri_in}
use Rattle.console_bodies.specs.Objects.{object_of, text_in, member_in}
use Rattle.serde_json.specs.Data.{Data}
use Rattle.usage_tables.specs.declared.approval.OperatorVerdict.TheVariants.{Failed}
use Rattle.usage_tables.specs.declared.approval.OperatorVerdict.{OperatorVerdict}
use Rattle.console_bodies.specs.Values.{Reading, meant, address_at, name_at, number_at, mac_at}
use Rattle.console_bodies.specs.declared.member.Member.TheVariants as members
use Rattle.desk_model.specs.declared.command.Command.TheVariants as command
use Rattle.console_bodies.specs.declared.fault.BodyFault.TheVariants as fault

abbrev pub answer_of : {A : Type 0} → Result A UrlFault → Option A
answer_of (Ok a) = Some a
answer_of (Err refusal) = None

abbrev pub stated : Statement → List ℕ → Result Command BodyFault
stated statement octets = and_then (object_of octets) (λ d. answer (command_at statement d))

abbrev pub verdict_at : Data → Reading OperatorVerdict
verdict_at d = meant Failed members.Verdict (option_and_then verdict_in (text_in members.Verdict d))

abbrev pub observe_name : Data → Reading Command
observe_name d = do
  name ← name_at d
  address ← address_at d
  seconds ← number_at 1 2147483647 members.Ttl d
  done (command.Observe name address seconds)

abbrev pub lease_address : Data → Reading Command
lease_address d = do
  mac ← mac_at d
  address ← address_at d
  seconds ← number_at 1 4294967295 members.Seconds d
  done (command.Lease mac address seconds)

abbrev pub only_own : Data → Reading (Unit {0})
only_own d = refused_where (is_some (member_in members.Class d)) (fault.Member members.MyControllerOf)

abbrev pub bind_address : Data → Reading Command
bind_address d = do
  class ← class_at d
  address ← address_at d
  done (command.Bind class address)

abbrev pub uri_at : Data → Reading (List ℕ)
uri_at d = meant [] members.Class (option_and_then uri_in (text_in members.Class d))

abbrev pub within : ℕ → ℕ → ℕ → Option ℕ
within least most n = if nat_le least n && nat_le n most then Some n else None
