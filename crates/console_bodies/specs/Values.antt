-- What the members of bodies mean. A member that is missing, of another kind, or outside its grammar or range has no
-- meaning, and the check that it has one names it.
use Rattle.std.specs.Prelude.{ℕ, Bool, ◌&&◌, ◌||◌, ◌==◌, nat_le, List, [], ◌∷◌, ◌++◌, length, Option, Some, None, option_and_then, Result, Ok, Err, if◌then◌else◌}
use Rattle.std.specs.List.{list_all}
use Rattle.mud_base.specs.declared.addr.Mac.{Mac}
use Rattle.mud_base.specs.declared.addr.Addr.{Addr}
use Rattle.mud_base.specs.declared.addr.Addr.TheVariants.{V4}
use Rattle.mud_base.specs.Addresses.{PrefixParts}
use Rattle.mud_base.specs.Reading.{mac_in, addr_in, prefix_in}
use Rattle.mud_url.specs.declared.fault.UrlFault.{UrlFault}
use Rattle.mud_url.specs.Url.{url_of}
use Rattle.mud_url.specs.Host.{host_name_of}
use Rattle.serde_json.specs.Data.{Data}
use Rattle.serde_json.specs.Find.{as_str}
use Rattle.usage_walk.specs.Kinds.{list_in}
use Rattle.mud_base.specs.Readings as of
use Rattle.mud_base.specs.Readings.{done, ◌>>=◌, wanted, over}
use Rattle.console_bodies.specs.declared.fault.BodyFault.{BodyFault}
use Rattle.console_bodies.specs.declared.fault.BodyFault.TheVariants as fault
use Rattle.console_bodies.specs.declared.member.Member.{Member}
use Rattle.console_bodies.specs.declared.member.Member.TheVariants as members
use Rattle.console_bodies.specs.Objects.{member_in, text_in, number_in}

-- the checks of a body's members, in the order in which they are read, and what they mean
abbrev pub Reading : Type 0 → Type 0
Reading A = of.Reading BodyFault A

-- the check that a member has a meaning
unfoldable pub meant : {A : Type 0} → A → Member → Option A → Reading A
meant default member meaning = wanted default (fault.Member member) meaning

-- ---- Texts

unfoldable pub mac_at : Data → Reading Mac
mac_at d = meant (record { 0 = [] }) members.Mac (option_and_then mac_in (text_in members.Mac d))

unfoldable pub address_at : Data → Reading Addr
address_at d = meant (V4 0) members.Address (option_and_then addr_in (text_in members.Address d))

abbrev pub url_in : List ℕ → Option (List ℕ)
url_in text = answer_of (url_of text)
  where
    answer_of : {A : Type 0} → Result A UrlFault → Option A
    answer_of (Ok a) = Some a
    answer_of (Err refusal) = None

-- a MUD URL, as its canonical text
unfoldable pub url_at : Member → Data → Reading (List ℕ)
url_at member d = meant [] member (option_and_then url_in (text_in member d))

-- a host name, in lower case; one dot at its end is dropped
unfoldable pub name_at : Data → Reading (List ℕ)
name_at d = meant [] members.Name (option_and_then host_name_of (text_in members.Name d))

-- `0` to `9` or `a` to `f`
abbrev pub is_lower_hex : ℕ → Bool
is_lower_hex c = (nat_le 48 c && nat_le c 57) || (nat_le 97 c && nat_le c 102)

-- a SHA-256 digest in 64 lower-case hex digits
unfoldable pub digest_at : Data → Reading (List ℕ)
digest_at d = meant [] members.Sha256 (option_and_then digest_in (text_in members.Sha256 d))
  where
    is_digest : List ℕ → Bool
    is_digest text = length text == 64 && list_all is_lower_hex text

    digest_in : List ℕ → Option (List ℕ)
    digest_in text = if is_digest text then Some text else None

-- ---- Numbers

-- a whole number of this range
unfoldable pub number_at : ℕ → ℕ → Member → Data → Reading ℕ
number_at least most member d = meant 0 member (option_and_then (within least most) (number_in member d))
  where
    within : ℕ → ℕ → ℕ → Option ℕ
    within least most n = if nat_le least n && nat_le n most then Some n else None

-- ---- Lists

-- the next prefix of the list, behind those before it
unfoldable pub next_prefix : List PrefixParts → Data → Reading (List PrefixParts)
next_prefix before d = do
  prefix ← meant (record { addr = V4 0; len = 0 }) members.Prefixes (option_and_then prefix_in (as_str d))
  done (before ++ prefix ∷ [])

unfoldable pub prefixes_of : List Data → Reading (List PrefixParts)
prefixes_of ds = over next_prefix [] ds

-- a list of texts, each of which writes a prefix
unfoldable pub prefixes_at : Data → Reading (List PrefixParts)
prefixes_at d = do
  list ← meant [] members.Prefixes (option_and_then list_in (member_in members.Prefixes d))
  prefixes_of list
