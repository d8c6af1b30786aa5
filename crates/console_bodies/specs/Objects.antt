-- The JSON object that a body is (RFC 8259), and its members.
use Rattle.std.specs.Prelude.{ℕ, List, Option, Some, None, is_some, option_and_then, Result, Ok, Err, if◌then◌else◌}
use Rattle.serde_json.specs.Data.{Data}
use Rattle.serde_json.specs.Find.{get, as_number, as_u64, as_str, as_object}
use Rattle.usage_walk.specs.Json.{value_in}
use Rattle.mud_base.specs.Readings.{and_then}
use Rattle.console_bodies.specs.declared.fault.BodyFault.{BodyFault}
use Rattle.console_bodies.specs.declared.fault.BodyFault.TheVariants.{Json}
use Rattle.console_bodies.specs.declared.member.Member.{Member}
use Rattle.console_bodies.specs.Members.{name_of}

abbrev pub as_json : Option Data → Result Data BodyFault
as_json None = Err Json
as_json (Some d) = Ok d

-- the object that the octets are
unfoldable pub object_of : List ℕ → Result Data BodyFault
object_of octets = and_then (as_json (value_in octets)) as_object_of
  where
    as_object_of : Data → Result Data BodyFault
    as_object_of d = if is_some (as_object d) then Ok d else Err Json

unfoldable pub member_in : Member → Data → Option Data
member_in member d = get (name_of member) d

unfoldable pub text_in : Member → Data → Option (List ℕ)
text_in member d = option_and_then as_str (member_in member d)

-- a whole number from 0 on, below 2^64
unfoldable pub number_in : Member → Data → Option ℕ
number_in member d = option_and_then as_u64 (option_and_then as_number (member_in member d))
