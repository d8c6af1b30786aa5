-- What the operator states by a JSON object: its members are read in the order of the definition.
use Rattle.std.specs.Prelude.{◌≡◌, ℕ, Bool, List, [], ◌∷◌, codes, find, bytes_eq, Option, Some, None, is_some, option_and_then, if◌then◌else◌}
use Rattle.mud_base.specs.Addresses.{PrefixParts}
use Rattle.serde_json.specs.Data.{Data}
use Rattle.mud_base.specs.Readings.{done, ◌>>=◌, refused_where}
use Rattle.table_model.specs.declared.bind.Class.{Class}
use Rattle.table_model.specs.declared.bind.Class.TheVariants as class
use Rattle.table_model.specs.Binds.{is_class_uri}
use Rattle.usage_tables.specs.declared.approval.OperatorVerdict.{OperatorVerdict}
use Rattle.usage_tables.specs.declared.approval.OperatorVerdict.TheVariants.{Verified, Waived, Failed}
use Rattle.desk_model.specs.declared.command.Command.{Command}
use Rattle.desk_model.specs.declared.command.Command.TheVariants as command
use Rattle.console_routes.specs.declared.action.Statement.{Statement}
use Rattle.console_routes.specs.declared.action.Statement.TheVariants as statement
use Rattle.console_bodies.specs.declared.fault.BodyFault.TheVariants as fault
use Rattle.console_bodies.specs.declared.member.Member.TheVariants as members
use Rattle.console_bodies.specs.Objects.{member_in, text_in}
use Rattle.console_bodies.specs.Values.{Reading, meant, mac_at, address_at, url_at, name_at, digest_at, number_at, prefixes_at}

-- ---- Classes

abbrev pub uri_in : List ℕ → Option (List ℕ)
uri_in text = if is_class_uri text then Some text else None

unfoldable pub uri_class : Data → Reading Class
uri_class d = do
  -- 1 to 255 octets from 21 to 7E hex
  uri ← meant [] members.Class (option_and_then uri_in (text_in members.Class d))
  done (class.Uri uri)

unfoldable pub own_class : Data → Reading Class
own_class d = do
  url ← url_at members.MyControllerOf d
  done (class.Mine url)

unfoldable pub own_alone : Data → Reading Class
own_alone d = do
  _ ← refused_where (is_some (member_in members.Class d)) (fault.Member members.MyControllerOf)
  own_class d

-- A class is named by `class` or by `my-controller-of`. Where both stand, the second is wrong; where neither stands,
-- the first is missing.
unfoldable pub class_at : Data → Reading Class
class_at d = if is_some (member_in members.MyControllerOf d) then own_alone d else uri_class d

-- ---- What the operator says of a candidate

unfoldable pub text_of : OperatorVerdict → List ℕ
text_of Verified = codes "verified"
text_of Waived = codes "waived"
text_of Failed = codes "failed"

unfoldable pub verdict_in : List ℕ → Option OperatorVerdict
verdict_in word = find (λ (verdict : OperatorVerdict). bytes_eq (text_of verdict) word) (Verified ∷ Waived ∷ Failed ∷ [])

-- ---- The statements

unfoldable pub state_verdict : Data → Reading Command
state_verdict d = do
  url ← url_at members.Url d
  digest ← digest_at d
  verdict ← verdict_at d
  done (command.Verdict url digest verdict)
  where
    verdict_at : Data → Reading OperatorVerdict
    verdict_at d = meant Failed members.Verdict (option_and_then verdict_in (text_in members.Verdict d))

-- the command that an object states
unfoldable pub command_at : Statement → Data → Reading Command
command_at statement.Move d = do
  mac ← mac_at d
  url ← url_at members.Url d
  done (command.Move mac url)
command_at statement.Remove d = do
  mac ← mac_at d
  done (command.Remove mac)
command_at statement.Hold d = do
  mac ← mac_at d
  done (command.Hold mac)
command_at statement.Release d = do
  mac ← mac_at d
  done (command.Release mac)
command_at statement.Lease d = do
  mac ← mac_at d
  address ← address_at d
  seconds ← number_at 1 4294967295 members.Seconds d
  done (command.Lease mac address seconds)
command_at statement.EndLease d = do
  address ← address_at d
  done (command.EndLease address)
command_at statement.Verdict d = state_verdict d
command_at statement.Revoke d = do
  url ← url_at members.Url d
  done (command.Revoke url)
command_at statement.Bind d = do
  class ← class_at d
  address ← address_at d
  done (command.Bind class address)
command_at statement.Unbind d = do
  class ← class_at d
  address ← address_at d
  done (command.Unbind class address)
command_at statement.Locals d = do
  prefixes ← prefixes_at d
  done (command.Locals prefixes)
command_at statement.Observe d = do
  name ← name_at d
  address ← address_at d
  seconds ← number_at 1 2147483647 members.Ttl d
  done (command.Observe name address seconds)
