-- The names of usage files that wait to be imported: the moment at which the file was fetched, a dash, a label, and `.json`.
use Rattle.std.specs.Prelude.{ℕ, ◌-◌, ◌==◌, Bool, ◌&&◌, ◌||◌, nat_lt, nat_le, bytes_eq, List, length, take, drop, codes, Option, Some, None, option_and_then, if◌then◌else◌}
use Rattle.std.specs.List.{list_all, before_first, after_first}
use Rattle.std.specs.Char.{is_ascii_alphanumeric}
use Rattle.mud_base.specs.Reading.{moment_in}

abbrev pub is_dash : ℕ → Bool
is_dash c = c == 45

-- a letter, a digit, `-`, `_` or `.`
unfoldable pub is_label_octet : ℕ → Bool
is_label_octet c = is_ascii_alphanumeric c || is_dash c || c == 95 || c == 46

-- a label has 1 to 64 of them
unfoldable pub is_label : List ℕ → Bool
is_label text = has_label_length text && list_all is_label_octet text
  where
    has_label_length : List ℕ → Bool
    has_label_length text = nat_lt 0 (length text) && nat_le (length text) 64

-- the moment at which the file was fetched, by its name; none for a name of another form
unfoldable pub fetched_in : List ℕ → Option ℕ
fetched_in name = option_and_then fetched_in_stem (stem_of name)
  where
    -- the moment in front of the first dash, where a label stands behind it
    fetched_in_stem : List ℕ → Option ℕ
    fetched_in_stem stem = if is_label (after_first is_dash stem) then moment_in (before_first is_dash stem) else None

    -- what stands before `.json`, where the name ends so
    stem_of : List ℕ → Option (List ℕ)
    stem_of name = if bytes_eq (drop (length name - 5) name) (codes ".json") then Some (take (length name - 5) name) else None
