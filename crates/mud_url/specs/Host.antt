-- Host names: labels of letters, digits, `-` and `_`, joined by `.` (RFC 952; RFC 1123, 2.1), of at
-- most 63 octets a label and 253 in all (RFC 1035, 2.3.4). That `_` may stand is a choice of ours.
use Rattle.std.specs.Prelude.{ℕ, ◌-◌, Bool, not, ◌&&◌, ◌||◌, ◌==◌, nat_le, List, length, take, slice_index, Option, Some, None, if◌then◌else◌, map}
use Rattle.std.specs.List.{list_all, slice_split}
use Rattle.std.specs.Char.{is_ascii_alphanumeric, to_ascii_lowercase}

-- ASCII letters in lower case
unfoldable pub lowered : List ℕ → List ℕ
lowered text = map to_ascii_lowercase text

-- a letter, a digit, `-` or `_`
unfoldable pub is_label_octet : ℕ → Bool
is_label_octet c = is_ascii_alphanumeric c || c == 45 || c == 95

-- 1 to 63 such octets, the first and the last of them no `-`
unfoldable pub is_label : List ℕ → Bool
is_label text =
    nat_le 1 (length text)
    && nat_le (length text) 63
    && not (slice_index text 0 == 45)
    && not (slice_index text (length text - 1) == 45)
    && list_all is_label_octet text

abbrev pub is_dot : ℕ → Bool
is_dot c = c == 46

-- one or more labels joined by `.`, at most 253 octets in all
unfoldable pub is_host : List ℕ → Bool
is_host text = nat_le (length text) 253 && list_all is_label (slice_split is_dot text)

-- the text without one trailing `.`
unfoldable pub without_last_dot : List ℕ → List ℕ
without_last_dot text = if is_dot (slice_index text (length text - 1)) then take (length text - 1) text else text

-- the name, in lower case, that a text is when one trailing `.` is dropped
unfoldable pub host_name_of : List ℕ → Option (List ℕ)
host_name_of text = if is_host (without_last_dot text) then Some (lowered (without_last_dot text)) else None
