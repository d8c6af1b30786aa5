-- The rules of single members inside `matches`. The parent is the object that they stand in, and the path is the parent's.
use Rattle.std.specs.Prelude.{ℕ, Bool, true, false, not, ◌&&◌, ◌==◌, nat_lt, nat_le, List, [], length, codes, bytes_eq, Option, Some, None, option_and_then, Result, Ok, Err, if◌then◌else◌}
use Rattle.std.specs.List.{list_all}
use Rattle.std.specs.Char.{is_ascii_graphic}
use Rattle.mud_base.specs.declared.addr.Addr.{Addr}
use Rattle.mud_base.specs.declared.addr.Addr.TheVariants.{V4, V6}
use Rattle.mud_base.specs.declared.packet.Direction.{Direction}
use Rattle.mud_base.specs.declared.packet.Direction.TheVariants.{From, To}
use Rattle.mud_base.specs.Addresses.{PrefixParts}
use Rattle.mud_base.specs.Reading.{prefix_in}
use Rattle.mud_url.specs.declared.fault.UrlFault.{UrlFault}
use Rattle.mud_url.specs.Host.{host_name_of}
use Rattle.mud_url.specs.Url.{url_of}
use Rattle.serde_json.specs.Data.{Data}
use Rattle.usage_walk.specs.declared.fault.Rule.{Rule}
use Rattle.usage_walk.specs.declared.fault.Rule.TheVariants as rule
use Rattle.usage_walk.specs.declared.fault.Broken.{Broken}
use Rattle.usage_walk.specs.declared.member.Member.{Member}
use Rattle.mud_base.specs.Readings.{done, ◌>>=◌, wanted, refused_where, where_there}
use Rattle.usage_walk.specs.Reading.{Reading, under, fault_at}
use Rattle.usage_walk.specs.Kinds.{number_where_there, text_where_there}
use Rattle.usage_match.specs.declared.entry_tests.ListType.{ListType}
use Rattle.usage_match.specs.declared.entry_tests.ListType.TheVariants.{Ipv4, Ipv6}
use Rattle.usage_match.specs.declared.entry_tests.Operator.{Operator}
use Rattle.usage_match.specs.declared.entry_tests.Operator.TheVariants as operator

-- ---- Numbers

-- a number is at most this
unfoldable pub as_upto : ℕ → List ℕ → Member → ℕ → Reading ℕ
as_upto most path m n = do
  _ ← refused_where (nat_lt most n) (fault_at rule.Range (under path m))
  done n

-- a number up to this one, which is at most 255, where it is there
unfoldable pub octet_where_there : ℕ → List ℕ → Member → Data → Reading (Option ℕ)
octet_where_there most path m parent = do
  n ← number_where_there path m (Some parent)
  where_there (as_upto most path m) n

-- a length in octets, up to 65535, where it is there
unfoldable pub length_where_there : List ℕ → Member → Data → Reading (Option ℕ)
length_where_there path m parent = do
  n ← number_where_there path m (Some parent)
  where_there (as_upto 65535 path m) n

-- ---- Texts that mean something

-- the answer where the text is there
abbrev pub meant : {A : Type 0} → Broken → Option A → Result (Option A) Broken
meant broken None = Err broken
meant broken (Some a) = Ok (Some a)

-- what a text means, where it is there; one that means nothing breaks this rule
unfoldable pub meant_where_there : {A : Type 0} → A → Rule → (List ℕ → Option A) → List ℕ → Member → Data → Reading (Option A)
meant_where_there default broken meaning path m parent = do
  text ← text_where_there path m (Some parent)
  where_there (as_meant default (fault_at broken (under path m)) meaning) text
  where
    as_meant : {A : Type 0} → A → Broken → (List ℕ → Option A) → List ℕ → Reading A
    as_meant default broken meaning text = wanted default broken (meaning text)

-- ---- Names

-- a host name, where it is there, in lower case and without a trailing dot
unfoldable pub host_where_there : List ℕ → Member → Data → Reading (Option (List ℕ))
host_where_there path m parent = meant_where_there [] rule.NameText host_name_of path m parent

unfoldable pub model_in : List ℕ → Option (List ℕ)
model_in text = value_of (url_of text)
  where
    value_of : Result (List ℕ) UrlFault → Option (List ℕ)
    value_of (Ok url) = Some url
    value_of (Err fault) = None

-- a MUD URL, where it is there
unfoldable pub model_where_there : List ℕ → Member → Data → Reading (Option (List ℕ))
model_where_there path m parent = meant_where_there [] rule.NameText model_in path m parent

unfoldable pub uri_in : List ℕ → Option (List ℕ)
uri_in text = if is_uri text then Some text else None
  where
    -- 1 to 255 octets from 21 to 7E hex
    is_uri : List ℕ → Bool
    is_uri text = not (length text == 0) && nat_le (length text) 255 && list_all is_ascii_graphic text

-- ---- Networks

abbrev pub is_of_type : ListType → Addr → Bool
is_of_type Ipv4 (V4 n) = true
is_of_type Ipv4 (V6 n) = false
is_of_type Ipv6 (V4 n) = false
is_of_type Ipv6 (V6 n) = true

-- the prefix of this IP version that a text is
unfoldable pub network_in : ListType → List ℕ → Option PrefixParts
network_in type text = option_and_then (of_type type) (prefix_in text)
  where
    of_type : ListType → PrefixParts → Option PrefixParts
    of_type type prefix = if is_of_type type prefix.addr then Some prefix else None

-- a network of this IP version, where it is there
unfoldable pub network_where_there : ListType → List ℕ → Member → Data → Reading (Option PrefixParts)
network_where_there type path m parent = meant_where_there (record { addr = V4 0; len = 0 }) rule.PrefixText (network_in type) path m parent

-- ---- Directions (RFC 8520, 4.8)

-- the side that begins the connection
unfoldable pub direction_in : List ℕ → Option Direction
direction_in text = if bytes_eq text (codes "to-device") then Some To else (if bytes_eq text (codes "from-device") then Some From else None)

unfoldable pub direction_where_there : List ℕ → Member → Data → Reading (Option Direction)
direction_where_there path m parent = meant_where_there From rule.DirectionText direction_in path m parent

-- ---- Operators (RFC 8519, 4.2)

unfoldable pub operator_in : List ℕ → Option Operator
operator_in text =
    if bytes_eq text (codes "eq") then Some operator.Eq
    else (if bytes_eq text (codes "neq") then Some operator.Neq
    else (if bytes_eq text (codes "lte") then Some operator.Lte
    else (if bytes_eq text (codes "gte") then Some operator.Gte
    else None)))

unfoldable pub operator_where_there : List ℕ → Member → Data → Reading (Option Operator)
operator_where_there path m parent = meant_where_there operator.Eq rule.Operator operator_in path m parent
