-- JSON objects some of whose members are left out (RFC 8259, 4), with no space. The names and texts here need no escapes.
use Rattle.std.specs.Prelude.{ℕ, Bool, true, ◌&&◌, List, [], ◌∷◌, ◌++◌, codes, Option, Some, None, if◌then◌else◌}
use Rattle.std.specs.Option.{is_none}

-- a name, and the text of its value, where it has one
abbrev pub Member : Type 0
Member = List ℕ × Option (List ℕ)

-- in quotes
unfoldable pub quoted : List ℕ → List ℕ
quoted text = codes "\"" ++ text ++ codes "\""

-- a member without a value is left out
unfoldable pub member_text : Bool → Member → List ℕ
member_text first (name, None) = []
member_text first (name, Some value) = name_text first name ++ value
  where
    -- a name and a colon, behind a comma unless the member is the first
    name_text : Bool → List ℕ → List ℕ
    name_text first name = (if first then [] else codes ",") ++ quoted name ++ codes ":"

-- whether the next member is the first
unfoldable pub next_first : Bool → Member → Bool
next_first first (name, value) = first && is_none value

unfoldable pub members_text : Bool → List Member → List ℕ
members_text first [] = []
members_text first (m ∷ ms) = member_text first m ++ members_text (next_first first m) ms

unfoldable pub object : List Member → List ℕ
object members = codes "{" ++ members_text true members ++ codes "}"
