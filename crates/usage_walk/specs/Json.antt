-- The JSON value of octets (RFC 8259).
use Rattle.std.specs.Prelude.{ℕ, List, Option, None, if◌then◌else◌}
use Rattle.std.specs.Str.{is_utf8}
use Rattle.serde_json.specs.Data.{Data}
use Rattle.serde_json.specs.Read.{read}

-- the value that the octets read as, and None where they have no reading. Of two members with one name the last counts.
unfoldable pub value_in : List ℕ → Option Data
value_in octets = if is_utf8 octets then read octets else None
