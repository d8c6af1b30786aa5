-- MUD URLs: `https` URLs of RFC 3986 with a host name, an optional port, a path and an optional
-- query (RFC 8520, 6), and the string in which a Thing announces one.
use Rattle.std.specs.Prelude.{ℕ, ◌+◌, ◌-◌, Bool, false, not, ◌&&◌, ◌||◌, ◌==◌, nat_lt, List, [], ◌∷◌, ◌++◌, length, take, drop, slice_index, codes, bytes_eq, Option, Some, None, Result, Ok, Err, if◌then◌else◌, position}
use Rattle.std.specs.List.{list_any, before_first, after_first}
use Rattle.std.specs.Option.{option_map_or}
use Rattle.std.specs.Char.{is_ascii_alphanumeric, is_ascii_graphic, is_ascii_hexdigit}
use Rattle.mud_base.specs.Decimal.{number_upto}
use Rattle.mud_base.specs.Faults.{row, row_at, unless}
use Rattle.mud_url.specs.Host.{lowered, is_host}
use Rattle.mud_url.specs.declared.fault.UrlFault.{UrlFault}
use Rattle.mud_url.specs.declared.fault.UrlFault.TheVariants.{Empty, Octet, Scheme, Host, Port, Path, UserInfo, Fragment, Long}

unfoldable pub scheme : List ℕ
scheme = codes "https://"

-- the scheme in either case (RFC 3986, 3.1)
unfoldable pub begins_with_scheme : List ℕ → Bool
begins_with_scheme url = bytes_eq (lowered (take 8 url)) scheme

abbrev pub is_colon : ℕ → Bool
is_colon c = c == 58

abbrev pub is_slash_or_question : ℕ → Bool
is_slash_or_question c = c == 47 || c == 63

-- the parts of a URL (RFC 3986, 3): the authority ends before the first `/` or `?` after the
-- scheme, and its host before its first `:`
unfoldable pub authority : List ℕ → List ℕ
authority url = before_first is_slash_or_question (drop 8 url)

unfoldable pub path_and_query : List ℕ → List ℕ
path_and_query url = drop (length (authority url)) (drop 8 url)

unfoldable pub host_part : List ℕ → List ℕ
host_part url = before_first is_colon (authority url)

unfoldable pub port_part : List ℕ → List ℕ
port_part url = after_first is_colon (authority url)

-- empty, or 1 to 65535 in decimal without a leading zero
unfoldable pub is_port : List ℕ → Bool
is_port text = length text == 0 || option_map_or (λ n. nat_lt 0 n) (number_upto 65535 text) false

unfoldable pub begins_with_hex_pair : List ℕ → Bool
begins_with_hex_pair [] = false
begins_with_hex_pair (c ∷ []) = false
begins_with_hex_pair (c ∷ d ∷ more) = is_ascii_hexdigit c && is_ascii_hexdigit d

-- whether an octet may stand in front of the others: `%` only where two hex digits follow (2.1)
unfoldable pub may_stand : ℕ → List ℕ → Bool
may_stand c more = is_path_octet c || (c == 37 && begins_with_hex_pair more)
  where
    -- unreserved octets, sub-delimiters, `:`, `@`, `/` (RFC 3986, 3.3), and `?`. A query may hold `?`
    -- too (3.4), and the first `?` begins it, so path and query have one set.
    is_path_octet : ℕ → Bool
    is_path_octet c = is_ascii_alphanumeric c || list_any (λ mark. mark == c) (codes "-._~!$&'()*+,;=:@/?")

-- the offset of the first octet that may not stand, where the text begins at this offset
unfoldable pub path_fault : ℕ → List ℕ → Option ℕ
path_fault at [] = None
path_fault at (c ∷ more) = if may_stand c more then path_fault (at + 1) more else Some at

-- `/` for an empty path, and the rest as it is
unfoldable pub canonical_path : List ℕ → List ℕ
canonical_path [] = 47 ∷ []
canonical_path (c ∷ more) = if c == 47 then c ∷ more else 47 ∷ c ∷ more

-- the text by which URLs are compared
unfoldable pub canonical : List ℕ → List ℕ
canonical url = scheme ++ lowered (host_part url) ++ canonical_port (port_part url) ++ canonical_path (path_and_query url)
  where
    -- `:` and the port, unless it is empty or the default one of the scheme (RFC 3986, 6.2.3)
    canonical_port : List ℕ → List ℕ
    canonical_port port = if length port == 0 || bytes_eq port (codes "443") then [] else 58 ∷ port

-- the faults of a URL, in the order in which they are found
abbrev pub faults : List ℕ → List (Option UrlFault)
faults url =
    row (length url == 0) Empty
    ∷ row (nat_lt 255 (length url)) Long
    ∷ row_at Octet (position (λ c. not (is_ascii_graphic c)) url)
    ∷ row (not (begins_with_scheme url)) Scheme
    ∷ row (list_any (λ c. c == 35) url) Fragment
    ∷ row (list_any (λ c. c == 64) (authority url)) UserInfo
    ∷ row (not (is_host (host_part url))) Host
    ∷ row (not (is_port (port_part url))) Port
    ∷ row_at Path (path_fault (8 + length (authority url)) (path_and_query url))
    ∷ []

-- the canonical text of a MUD URL, or the first fault
unfoldable pub url_of : List ℕ → Result (List ℕ) UrlFault
url_of url = unless (faults url) (Ok (canonical url))

-- the string without one zero octet at its end
unfoldable pub without_last_zero : List ℕ → List ℕ
without_last_zero text = if not (length text == 0) && slice_index text (length text - 1) == 0 then take (length text - 1) text else text

abbrev pub is_space : ℕ → Bool
is_space c = c == 32

-- the URL of a MUD string of at most 255 octets, which ends at its first space (RFC 8520, 10)
unfoldable pub string_of : List ℕ → Result (List ℕ) UrlFault
string_of octets =
    if nat_lt 255 (length (without_last_zero octets)) then Err Long else url_of (before_first is_space (without_last_zero octets))

-- the host of a canonical text
unfoldable pub host_of : List ℕ → List ℕ
host_of text = host_part text

unfoldable pub reads_as : List ℕ → List ℕ → Bool
reads_as url text = gave (url_of url) text
  where
    -- whether a reading gave this text
    gave : Result (List ℕ) UrlFault → List ℕ → Bool
    gave (Ok read) text = bytes_eq read text
    gave (Err fault) text = false

abbrev pub is_question_mark : ℕ → Bool
is_question_mark c = c == 63

-- what stands before the first `?`, with which a query begins (RFC 3986, 3.4)
unfoldable pub before_query : List ℕ → List ℕ
before_query text = before_first is_question_mark text

-- a canonical text is read as itself. One of 256 octets is too long for that: there the path is the
-- `/` that stands for an empty one, and the text is what is read without it.
unfoldable pub is_canonical : List ℕ → Bool
is_canonical text =
    reads_as text text || (length text == 256 && bytes_eq (before_query (path_and_query text)) (47 ∷ []) && reads_as (without_slash text) text)
  where
    -- the text without the first octet of its path
    without_slash : List ℕ → List ℕ
    without_slash text = take (8 + length (authority text)) text ++ drop 1 (path_and_query text)
